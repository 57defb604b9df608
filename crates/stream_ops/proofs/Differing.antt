-- Changes of a list that goes on, and what a pipe of changes answers.
use Rattle.std.proofs.Common.{◌≡◌, ◌≢◌, ℕ, suc, ◌+◌, ◌-◌, ◌<◌, Bool, true, false, not, ◌&&◌, cond, List, [], ◌∷◌, ◌++◌, map, length, get_or, take, drop, slice_get, Option, Some, None, Bor, refl, ap, sym, ◌∙◌, arith}
use Rattle.std.specs.Prelude.{option_map}
use Rattle.std.specs.List.{last_or, list_all, zip}
use Rattle.std.specs.Option.{option_copied}
use Rattle.std.specs.Str.{bytes_eq}
use Rattle.std.proofs.lemmas.List.{append-nil, map-append, take_more}
use lib.Pointwise.{pointwise}
use Rattle.chunk_core.specs.Elements.{Element, Line, Row, LoadKind, elements, kind_of}
use Rattle.chunk_core.specs.Elements.LoadKind.{Bytes, Lines, Rows}
use Rattle.chunk_core.specs.Feed.{Meaning, MayFeed, Feeds}
use Rattle.chunk_core.specs.declared.feed.Fed.TheVariants as fed
use Rattle.chunk_core.specs.declared.load.Load.{Load}
use Rattle.chunk_core.specs.declared.load.Load.TheVariants as load
use Rattle.pull_nodes.specs.PipeKinds.{gives_of}
use Rattle.pull_nodes.specs.Changes.{same_element, changes, changes_after}
use Rattle.pull_nodes.specs.declared.pipe.Pipe.TheVariants as pipe
use Rattle.pull_nodes.proofs.Meanings.{meaning_is, extends_from}
use Rattle.stream_ops.specs.Changed.{is_change, changed_behind, lines_in, rows_in}
use Rattle.stream_ops.specs.ChangesState.{StandsFor}
use Rattle.stream_ops.specs.declared.changes.ChangesPipe.{ChangesPipe}

change_case : (t : Bool) (x : Element) (whole front rest : List Element) → whole ≡ front ++ rest → cond t whole (x ∷ whole) ≡ cond t front (x ∷ front) ++ rest
change_case true x whole front rest e = e
change_case false x whole front rest e = ap (λ l. x ∷ l) e

after-append : (y : Element) (xs ys : List Element) → changes_after y (xs ++ ys) ≡ changes_after y xs ++ changed_behind (last_or (Some y) xs) ys
after-append y [] ys = refl
after-append y (x ∷ xs) ys = change_case (same_element y x) x (changes_after x (xs ++ ys)) (changes_after x xs) (changed_behind (last_or (Some x) xs) ys) (after-append x xs ys)

-- the last element before decides
pub changed-append : (o : Option Element) (xs ys : List Element) → changed_behind o (xs ++ ys) ≡ changed_behind o xs ++ changed_behind (last_or o xs) ys
changed-append (Some y) xs ys = after-append y xs ys
changed-append None [] ys = refl
changed-append None (x ∷ xs) ys = ap (λ l. x ∷ l) (after-append x xs ys)

pub last_or-append : {A : Type 0} (o : Option A) (xs ys : List A) → last_or o (xs ++ ys) ≡ last_or (last_or o xs) ys
last_or-append o [] ys = refl
last_or-append o (x ∷ xs) ys = last_or-append (Some x) xs ys

not_case : {A : Type 0} (t : Bool) (a b : A) → cond t a b ≡ cond (not t) b a
not_case true a b = refl
not_case false a b = refl

changed-one : (o : Option Element) (x : Element) → changed_behind o (x ∷ []) ≡ cond (is_change o x) (x ∷ []) []
changed-one None x = refl
changed-one (Some y) x = not_case (same_element y x) [] (x ∷ [])

pub last_is : {A : Type 0} (o : Option A) (xs : List A) → 0 < length xs → slice_get (drop (length xs - 1) xs) 0 ≡ last_or o xs
last_is o [] some = absurd (omega arith)
last_is o (x ∷ []) some = let none : length (x ∷ []) - 1 ≡ 0 = omega arith in ap (λ k. slice_get (drop k (x ∷ [])) 0) none
last_is o (x ∷ y ∷ xs) some =
    let less : length (x ∷ y ∷ xs) - 1 ≡ suc (length (y ∷ xs) - 1) = omega arith in
    ap (λ k. slice_get (drop k (x ∷ y ∷ xs)) 0) less ∙ last_is (Some x) (y ∷ xs) (omega arith)

-- an element more was looked at, and is kept or left out
module _ {A : Type 0} (el : A → Element) (o : Option Element) (items : List A) (i : ℕ) (x : A) (within : i < length items) (is : x ≡ get_or items i x) where
  more : map el (take (i + 1) items) ≡ map el (take i items) ++ el x ∷ []
  more = rw (take_more items i x within, ← is, map-append) refl

  one_case : (t : Bool) (old : List A) → map el (old ++ cond t (x ∷ []) []) ≡ map el old ++ cond t (el x ∷ []) []
  one_case true old = map-append el old (x ∷ [])
  one_case false old = map-append el old []

  module _ (last : Option Element) (old new : List A) (t : Bool) (before : map el old ≡ changed_behind o (map el (take i items))) (at : last ≡ last_or o (map el (take i items))) (test : t ≡ is_change last (el x)) where
    kept : new ≡ old ++ cond t (x ∷ []) [] → map el new ≡ changed_behind o (map el (take (i + 1) items))
    kept e =
        let front = map el (take i items) in
        ap (map el) e
        ∙ (one_case t old
        ∙ ((λ j. before j ++ cond ((test ∙ ap (λ (z : Option Element). is_change z (el x)) at) j) (el x ∷ []) [])
        ∙ (ap (λ l. changed_behind o front ++ l) (sym (changed-one (last_or o front) (el x)))
        ∙ (sym (changed-append o front (el x ∷ [])) ∙ ap (changed_behind o) (sym more)))))

    pub change_in : t ≡ true → new ≡ old ++ x ∷ [] → map el new ≡ changed_behind o (map el (take (i + 1) items))
    change_in is_new e = kept (e ∙ ap (λ z. old ++ cond z (x ∷ []) []) (sym is_new))

    pub change_out : t ≡ false → new ≡ old → map el new ≡ changed_behind o (map el (take (i + 1) items))
    change_out is_same e = kept (e ∙ (sym (append-nil old) ∙ ap (λ z. old ++ cond z (x ∷ []) []) (sym is_same)))

  pub change_last : Some (el x) ≡ last_or o (map el (take (i + 1) items))
  change_last = sym (ap (last_or o) more ∙ last_or-append o (map el (take i items)) (el x ∷ []))

-- elements of two kinds differ
pub line_before : (last : Load) (lines : List (List ℕ)) → changed_behind (option_map (λ y. Line y) (slice_get (lines_in last) 0)) (map Line lines) ≡ changed_behind (slice_get (elements last) 0) (map Line lines)
line_before (load.Bytes []) lines = refl
line_before (load.Bytes (b ∷ bytes)) [] = refl
line_before (load.Bytes (b ∷ bytes)) (line ∷ lines) = refl
line_before (load.Lines []) lines = refl
line_before (load.Lines (l ∷ ls)) lines = refl
line_before (load.Rows []) lines = refl
line_before (load.Rows (r ∷ rows)) [] = refl
line_before (load.Rows (r ∷ rows)) (line ∷ lines) = refl

pub row_before : (last : Load) (rows : List (List (List ℕ))) → changed_behind (option_map (λ y. Row y) (slice_get (rows_in last) 0)) (map Row rows) ≡ changed_behind (slice_get (elements last) 0) (map Row rows)
row_before (load.Bytes []) rows = refl
row_before (load.Bytes (b ∷ bytes)) [] = refl
row_before (load.Bytes (b ∷ bytes)) (row ∷ rows) = refl
row_before (load.Lines []) rows = refl
row_before (load.Lines (l ∷ ls)) [] = refl
row_before (load.Lines (l ∷ ls)) (row ∷ rows) = refl
row_before (load.Rows []) rows = refl
row_before (load.Rows (r ∷ rs)) rows = refl

shown : {A : Type 0} (el : A → Element) (r : Option (Bor A)) → option_map (λ y. el y.now) r ≡ option_map el (option_copied r)
shown el None = refl
shown el (Some y) = refl

-- what was given of a load of one kind, where the last element may be of another
pub given_changed : {A : Type 0} (el : A → Element) (before : Option (Bor A)) (first : Option A) (items kept : List A) (last : Option Element) → option_copied before ≡ first
    → map el kept ≡ changed_behind (option_map (λ y. el y.now) before) (map el items)
    → changed_behind (option_map el first) (map el items) ≡ changed_behind last (map el items) → map el kept ≡ changed_behind last (map el items)
given_changed el before first items kept last is list kinds =
    list ∙ (ap (λ (o : Option Element). changed_behind o (map el items)) (shown el before ∙ ap (option_map el) is) ∙ kinds)

-- rows of as many fields
pub fields_same : (a b : List (List ℕ)) → length a ≡ length b → list_all (λ p. bytes_eq p.0 p.1) (zip a b) ≡ pointwise bytes_eq a b
fields_same [] [] e = refl
fields_same [] (y ∷ b) e = absurd (omega arith)
fields_same (x ∷ a) [] e = absurd (omega arith)
fields_same (x ∷ a) (y ∷ b) e = ap (λ t. bytes_eq x y && t) (fields_same a b (omega arith))

same_kind : (kind g : LoadKind) → gives_of pipe.Changes kind ≡ Some g → (g ≡ kind) × (kind ≢ Bytes)
same_kind Bytes g h = (cc)
same_kind Lines g h = (cc, λ e. (cc))
same_kind Rows g h = (cc, λ e. (cc))

pub no_bytes : (q : ChangesPipe) (kind : LoadKind) → MayFeed (StandsFor q) kind → kind ≢ Bytes
no_bytes q kind h e = (same_kind h.0.takes h.0.gives (meaning_is pipe.Changes h.0 h.2.0).1).1 (h.3 ∙ e)

pub changes_feeds : (a b : ChangesPipe) (came kept : Load) → elements kept ≡ changed_behind (slice_get (elements a.last) 0) (elements came) → kind_of kept ≡ kind_of came
    → slice_get (elements b.last) 0 ≡ last_or (slice_get (elements a.last) 0) (elements came)
    → (m : Meaning) (xs : List Element) → StandsFor a m xs → m.takes ≡ kind_of came → Feeds m xs (elements came) (fed.Out kept) (StandsFor b m)
changes_feeds a b came kept list kind next m xs (h, last) takes =
    let ys = elements came in
    let gives = (meaning_is pipe.Changes m h).1 in
    let same = (same_kind m.takes m.gives gives).0 in
    let new : elements kept ≡ changed_behind (last_or None xs) ys = list ∙ ap (λ (o : Option Element). changed_behind o ys) last in (
      extends_from pipe.Changes m h xs ys kept None (gives ∙ ap (λ k. Some k) (same ∙ (takes ∙ sym kind)))
          (ap (λ l. changes xs ++ l) new ∙ sym (changed-append None xs ys)) refl,
      (h, next ∙ (ap (λ (o : Option Element). last_or o ys) last ∙ sym (last_or-append None xs ys))),
    )
