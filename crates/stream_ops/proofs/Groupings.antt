-- Elements in groups, and what a pipe of groups answers.
use Rattle.std.proofs.Common.{◌≡◌, ℕ, ◌+◌, ◌-◌, ◌*◌, ◌/◌, ◌%◌, ◌<◌, ◌≤◌, List, [], ◌++◌, map, length, take, drop, Some, None, refl, ap, sym, ◌∙◌, subst, arith, length-append}
use Rattle.std.proofs.lemmas.List.{append-nil, map-append, take-map, drop-map, length-map, length-drop}
use Rattle.std.proofs.Math.Nat.{div-eq_of_lt, add-mul-div_left, div-add-mod}
use Rattle.std.proofs.Math.Seq.{take-append-add, drop-append-add}
use Rattle.chunk_core.specs.Elements.{Element, Byte, Line, Row, LoadKind, elements, kind_of}
use Rattle.chunk_core.specs.Elements.LoadKind.{Bytes, Lines, Rows}
use Rattle.chunk_core.specs.Feed.{Meaning, Extends, Feeds, Finishes}
use Rattle.chunk_core.specs.declared.feed.Fed.TheVariants as fed
use Rattle.chunk_core.specs.declared.load.Load.{Load}
use Rattle.chunk_core.specs.declared.load.Load.TheVariants as load
use Rattle.pull_nodes.specs.Pipes.{IsMeaningOf}
use Rattle.pull_nodes.specs.ChunkN.{group_size}
use Rattle.pull_nodes.specs.Plain.{multiple, ungrouped}
use Rattle.pull_nodes.specs.declared.pipe.Pipe.TheVariants as pipe
use Rattle.pull_nodes.proofs.Groups.{grouped_and_rest, in_groups-append, ungrouped-append}
use Rattle.pull_nodes.proofs.Meanings.{meaning_is, extends_from, finishes_from}
use Rattle.stream_ops.specs.ChunkNState.{in_groups, KeepsGroup, StandsFor, Comes}
use Rattle.stream_ops.specs.declared.chunk_n.ChunkNPipe.{ChunkNPipe}

module _ {A : Type 0} (n : ℕ) (held chunk : List A) (fits : length held < n) where
  -- too few for a group
  none : length chunk < n - length held → multiple n (length (held ++ chunk)) ≡ 0
  none few =
      let less : length (held ++ chunk) < n = omega (arith, length-append held chunk) in
      ap (λ k. n * k) (div-eq_of_lt less) ∙ omega arith

  pub few_groups : length chunk < n - length held → [] ≡ in_groups n (held ++ chunk)
  few_groups few = ap (λ k. take k (held ++ chunk)) (sym (none few))

  pub few_rest : length chunk < n - length held → held ++ chunk ≡ ungrouped n (held ++ chunk)
  few_rest few = ap (λ k. drop k (held ++ chunk)) (sym (none few))

  -- so many of the chunk fill groups
  module _ (more cut : ℕ) (enough : n - length held ≤ length chunk) (is : more ≡ length chunk - (n - length held)) (at : cut ≡ (n - length held) + (more - more % n)) where
    filled : multiple n (length (held ++ chunk)) ≡ length held + cut
    filled =
        let some : 0 < n = omega arith in
        let len : length (held ++ chunk) ≡ more + n * 1 = omega (arith, length-append held chunk) in
        let one = add-mul-div_left more 1 {y = n} some in
        ap (λ k. n * (k / n)) len ∙ (ap (λ k. n * k) one ∙ omega (arith, div-add-mod more n))

    pub full_groups : held ++ take cut chunk ≡ in_groups n (held ++ chunk)
    full_groups = sym (ap (λ k. take k (held ++ chunk)) filled ∙ take-append-add held chunk cut)

    pub full_rest : drop cut chunk ≡ ungrouped n (held ++ chunk)
    full_rest = sym (ap (λ k. drop k (held ++ chunk)) filled ∙ drop-append-add held chunk cut)

module _ {A : Type 0} (el : A → Element) (n : ℕ) where
  map_groups : (l : List A) → map el (in_groups n l) ≡ in_groups n (map el l)
  map_groups l = sym (ap (λ k. take (multiple n k) (map el l)) (length-map l el) ∙ take-map el (multiple n (length l)) l)

  map_rest : (l : List A) → map el (ungrouped n l) ≡ ungrouped n (map el l)
  map_rest l = sym (ap (λ k. drop (multiple n k) (map el l)) (length-map l el) ∙ drop-map el (multiple n (length l)) l)

  module _ (some : 0 < n) (held chunk : List A) (xs : List Element) (at : map el held ≡ ungrouped n xs) where
    whole : map el (held ++ chunk) ≡ ungrouped n xs ++ map el chunk
    whole = map-append el held chunk ∙ ap (λ l. l ++ map el chunk) at

    -- the groups of a load behind what is held are those behind the input
    pub groups_go_on : in_groups n xs ++ map el (in_groups n (held ++ chunk)) ≡ in_groups n (xs ++ map el chunk)
    groups_go_on = ap (λ l. in_groups n xs ++ l) (map_groups (held ++ chunk) ∙ ap (in_groups n) whole) ∙ sym (in_groups-append n some xs (map el chunk))

    pub rest_goes_on : map el (ungrouped n (held ++ chunk)) ≡ ungrouped n (xs ++ map el chunk)
    rest_goes_on = map_rest (held ++ chunk) ∙ (ap (ungrouped n) whole ∙ sym (ungrouped-append n some xs (map el chunk)))

rest_less : (n : ℕ) → 0 < n → (xs : List Element) → length (ungrouped n xs) < n
rest_less n some xs = omega (arith, length-drop (multiple n (length xs)) xs, div-add-mod (length xs) n)

size_pos : (size n : ℕ) → size ≡ group_size n → 0 < size
size_pos size n is = omega arith

-- fewer are held than a group has
pub held_less : {A : Type 0} (el : A → Element) (size n : ℕ) (held : List A) (xs : List Element) → size ≡ group_size n → map el held ≡ ungrouped size xs → length held < size
held_less el size n held xs is at = omega (arith, rest_less size (size_pos size n is) xs, ap length at, length-map held el)

-- the groups of a load of one kind, and what is held behind them
kind_feed : {A : Type 0} (el : A → Element) (size n : ℕ) (held chunk groups rest : List A) (m : Meaning) (xs : List Element) (came given : Load)
    → IsMeaningOf (pipe.ChunkN n) m → size ≡ group_size n → map el held ≡ ungrouped size xs → groups ≡ in_groups size (held ++ chunk) → rest ≡ ungrouped size (held ++ chunk)
    → elements came ≡ map el chunk → elements given ≡ map el groups → m.takes ≡ kind_of came → kind_of given ≡ kind_of came
    → Extends m xs (elements came) given None × (map el rest ≡ ungrouped size (xs ++ elements came))
kind_feed el size n held chunk groups rest m xs came given h is at gives keeps came_is given_is takes kind =
    let some = size_pos size n is in
    let list : in_groups size xs ++ elements given ≡ in_groups size (xs ++ elements came) =
    ap (λ l. in_groups size xs ++ l) (given_is ∙ ap (map el) gives) ∙ (groups_go_on el size some held chunk xs at ∙ ap (λ l. in_groups size (xs ++ l)) (sym came_is)) in
    let P : ℕ → Type 0 = λ s. in_groups s xs ++ elements given ≡ in_groups s (xs ++ elements came) in (
      extends_from (pipe.ChunkN n) m h xs (elements came) given None (ap (λ k. Some k) (takes ∙ sym kind)) (subst P is list) refl,
      ap (map el) keeps ∙ (rest_goes_on el size some held chunk xs at ∙ ap (λ l. ungrouped size (xs ++ l)) (sym came_is)),
    )

module _ (q b : ChunkNPipe) (came : Load) (size : b.size ≡ q.size) (m : Meaning) (xs : List Element) where
  stays : (n : ℕ) → IsMeaningOf (pipe.ChunkN n) m → q.size ≡ group_size n → (kind : LoadKind) → m.takes ≡ kind → KeepsGroup b kind (ungrouped q.size (xs ++ elements came)) → StandsFor b m (xs ++ elements came)
  stays n h is kind takes holds =
      let P : ℕ → LoadKind → Type 0 = λ s k. KeepsGroup b k (ungrouped s (xs ++ elements came)) in
      (n, h, size ∙ is, subst (P b.size) (sym takes) (subst (λ s. P s kind) (sym size) holds))

  held_of : StandsFor q m xs → (kind : LoadKind) → m.takes ≡ kind → KeepsGroup q kind (ungrouped q.size xs)
  held_of (n, h, is, holds) kind takes = subst (λ k. KeepsGroup q k (ungrouped q.size xs)) takes holds

  pub bytes_feed : (chunk groups : List ℕ) → came ≡ load.Bytes chunk → groups ≡ in_groups q.size (q.bytes.items ++ chunk) → b.bytes.items ≡ ungrouped q.size (q.bytes.items ++ chunk)
      → b.lines.items ≡ q.lines.items → b.rows.items ≡ q.rows.items → StandsFor q m xs → m.takes ≡ kind_of came → Feeds m xs (elements came) (fed.Out (load.Bytes groups)) (StandsFor b m)
  bytes_feed chunk groups is_bytes gives keeps lines rows s takes =
      let kind : m.takes ≡ Bytes = takes ∙ ap kind_of is_bytes in
      let (at, no_lines, no_rows) = held_of s Bytes kind in
      let (extends, rest) = kind_feed Byte q.size s.0 q.bytes.items chunk groups b.bytes.items m xs came (load.Bytes groups) s.1 s.2 at gives keeps (ap elements is_bytes) refl takes (sym (ap kind_of is_bytes)) in
      (extends, stays s.0 s.1 s.2 Bytes kind (rest, lines ∙ no_lines, rows ∙ no_rows))

  pub lines_feed : (chunk groups : List (List ℕ)) → came ≡ load.Lines chunk → groups ≡ in_groups q.size (q.lines.items ++ chunk) → b.lines.items ≡ ungrouped q.size (q.lines.items ++ chunk)
      → b.bytes.items ≡ q.bytes.items → b.rows.items ≡ q.rows.items → StandsFor q m xs → m.takes ≡ kind_of came → Feeds m xs (elements came) (fed.Out (load.Lines groups)) (StandsFor b m)
  lines_feed chunk groups is_lines gives keeps bytes rows s takes =
      let kind : m.takes ≡ Lines = takes ∙ ap kind_of is_lines in
      let (at, no_bytes, no_rows) = held_of s Lines kind in
      let (extends, rest) = kind_feed Line q.size s.0 q.lines.items chunk groups b.lines.items m xs came (load.Lines groups) s.1 s.2 at gives keeps (ap elements is_lines) refl takes (sym (ap kind_of is_lines)) in
      (extends, stays s.0 s.1 s.2 Lines kind (rest, bytes ∙ no_bytes, rows ∙ no_rows))

  pub rows_feed : (chunk groups : List (List (List ℕ))) → came ≡ load.Rows chunk → groups ≡ in_groups q.size (q.rows.items ++ chunk) → b.rows.items ≡ ungrouped q.size (q.rows.items ++ chunk)
      → b.bytes.items ≡ q.bytes.items → b.lines.items ≡ q.lines.items → StandsFor q m xs → m.takes ≡ kind_of came → Feeds m xs (elements came) (fed.Out (load.Rows groups)) (StandsFor b m)
  rows_feed chunk groups is_rows gives keeps bytes lines s takes =
      let kind : m.takes ≡ Rows = takes ∙ ap kind_of is_rows in
      let (at, no_bytes, no_lines) = held_of s Rows kind in
      let (extends, rest) = kind_feed Row q.size s.0 q.rows.items chunk groups b.rows.items m xs came (load.Rows groups) s.1 s.2 at gives keeps (ap elements is_rows) refl takes (sym (ap kind_of is_rows)) in
      (extends, stays s.0 s.1 s.2 Rows kind (rest, bytes ∙ no_bytes, lines ∙ no_lines))

gives_same : (n : ℕ) (m : Meaning) → IsMeaningOf (pipe.ChunkN n) m → m.takes ≡ m.gives
gives_same n m h = let e = (meaning_is (pipe.ChunkN n) m h).1 in (cc)

-- what is held comes at the end
pub groups_finish : (q b : ChunkNPipe) (rest : Load) → ((kind : LoadKind) (ys : List Element) → KeepsGroup q kind ys → elements rest ≡ ys)
    → ((kind : LoadKind) (ys : List Element) → KeepsGroup q kind ys → 0 < length ys → kind_of rest ≡ kind) → ((kind : LoadKind) (ys : List Element) → KeepsGroup q kind ys → KeepsGroup b kind [])
    → 0 < length (elements rest) → (m : Meaning) (xs : List Element) → StandsFor q m xs → Finishes m xs (fed.Out rest) (Comes b m.gives)
groups_finish q b rest is kind none some m xs (n, h, size, holds) =
    let ys = ungrouped q.size xs in
    let same = gives_same n m h in
    let all : elements rest ≡ ys = is m.takes ys holds in
    let given : kind_of rest ≡ m.gives = kind m.takes ys holds (subst (λ (l : List Element). 0 < length l) all some) ∙ same in
    let P : ℕ → Type 0 = λ s. in_groups s xs ++ ungrouped q.size xs ≡ xs in
    finishes_from (pipe.ChunkN n) m h xs ys (fed.Out rest) (Comes b m.gives) (subst P size (grouped_and_rest q.size (size_pos q.size n size) xs))
    (given, some, [], sym all ∙ sym (append-nil (elements rest)), (subst (λ k. KeepsGroup b k []) same (none m.takes ys holds), refl, refl))
