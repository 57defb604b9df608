-- How often a path stands among the places of a plan.
use Rattle.std.proofs.Common.{◌≡◌, ◌⊎◌, ◌↔◌, ℕ, suc, ◌+◌, ◌≤◌, ◌<◌, Bool, true, false, cond, List, [], ◌∷◌, ◌++◌, length, Option, Some, None, inl, inr, ⊎_elim, refl, ap, ◌∙◌, sym, subst, arith, count_by, flat_map, option_map, option_to_list}
use Rattle.std.specs.Str.{bytes_eq}
use Rattle.std.proofs.lemmas.Bool.{cases_eq}
use Rattle.std.proofs.lemmas.List.Sums.{sum_by-append, sum_by-cons}
use Rattle.std.proofs.lemmas.Slice.Eq.{bytes_eq-Decides}
use Rattle.toml.specs.Data.{Data, Members}
use Rattle.device_port.specs.Device.{Place, to_read, to_write}
use Rattle.pipeline_desc.specs.Places.{list_places, second_path, stream_places, table_places}
use Rattle.pipeline_desc.specs.declared.listing.ListSpec.{ListSpec}
use Rattle.pipeline_desc.specs.declared.stream.Second.{Second}
use Rattle.pipeline_desc.specs.declared.stream.StreamSpec.{StreamSpec}
use Rattle.pipeline_desc.specs.declared.table.TableSpec.{TableSpec}
use Rattle.desc_laws.specs.Flaws.Key.{Path, With, To}
use Rattle.desc_laws.specs.Flaws.Part.{Table, Stream}
use Rattle.desc_laws.specs.Places.{HasText, text_in, value_at}
use Rattle.desc_laws.specs.Says.{SaysGiven, SaysListed, SaysSecond, SaysStream, SaysStreams, SaysTables, SaysText}

-- what is said to stand there does
pub given_text : (o : Option Data) (given : Option (List ℕ)) → SaysGiven o given → text_in o ≡ given
given_text None given h = sym h
given_text (Some d) given h = let (text, is, some) = h in is ∙ sym some

pub said_text : (o : Option Data) (text : List ℕ) → SaysText o text → text_in o ≡ Some text
said_text None text h = absurd h
said_text (Some d) text h = h

side_text : (bytes : List ℕ) (k : ℕ) (second : Option Second) → SaysSecond bytes k second → text_in (value_at bytes (Stream k) With) ≡ second_path second
side_text bytes k None h = ap text_in h.0
side_text bytes k (Some second) h = said_text (value_at bytes (Stream k) With) second.path h.path

-- one of so many, from number i on
pub record IsOne (P : ℕ → Type 0) (i n : ℕ) : Type 0 where
  pub number : ℕ
  pub low : i ≤ number
  pub high : number < i + n
  pub is : P number

one_more : (P : ℕ → Type 0) (i n : ℕ) → (P i ⊎ IsOne P (i + 1) n) ↔ IsOne P i (suc n)
one_more P i n = (
  (λ h. ⊎_elim (λ p. record { number = i; low = omega arith; high = omega arith; is = p }) (λ more. record { number = more.number; low = omega (arith, more.low); high = omega (arith, more.high); is = more.is }) h),
  (λ h. ⊎_elim (λ e. inl (subst P e h.is)) (λ n. inr (record { number = h.number; low = omega (arith, h.low, n); high = omega (arith, h.high); is = h.is })) (cases_eq h.number i)),
)

no_more : (P : ℕ → Type 0) (i : ℕ) → ⊥ ↔ IsOne P i 0
no_more P i = ((λ h. absurd h), (λ h. omega (arith, h.low, h.high)))

module _ (t : List ℕ) where
  -- how many of these places have the path
  abbrev pub count : List Place → ℕ
  count places = count_by (λ p. bytes_eq t p.path) places

  -- one of them has it exactly where this holds
  abbrev pub Tells : List Place → Type 0 → Type 0
  Tells places P = (0 < count places) ↔ P

  none_tells : Tells [] ⊥
  none_tells = ((λ h. omega (arith, h)), (λ h. absurd h))

  weigh : (b : Bool) → (0 < cond {A = ℕ} b 1 0 → b ≡ true) × (b ≡ true → 0 < cond {A = ℕ} b 1 0)
  weigh true = ((λ h. refl), (λ e. omega arith))
  weigh false = ((λ h. absurd (omega (arith, h))), (λ e. let no : false ≡ true = e in absurd (nothing no)))
    where
      nothing : false ≡ true → ⊥
      nothing n = cc

  one_tells : (p : Place) → Tells (p ∷ []) (t ≡ p.path)
  one_tells p =
      let sum : count (p ∷ []) ≡ cond {A = ℕ} (bytes_eq t p.path) 1 0 + 0 = sum_by-cons (λ q. cond (bytes_eq t q.path) 1 0) p [] in (
        (λ h. (bytes_eq-Decides t p.path).0 ((weigh (bytes_eq t p.path)).0 (omega (arith, h, sum)))),
        (λ e. let w = (weigh (bytes_eq t p.path)).1 ((bytes_eq-Decides t p.path).1 e) in omega (arith, w, sum)),
      )

  pub both_tell : (xs ys : List Place) (P Q : Type 0) → Tells xs P → Tells ys Q → Tells (xs ++ ys) (P ⊎ Q)
  both_tell xs ys P Q h k =
      let sum : count (xs ++ ys) ≡ count xs + count ys = sum_by-append (λ q. cond (bytes_eq t q.path) 1 0) xs ys in (
        (λ some. ⊎_elim (λ e. inr (k.0 (omega (arith, some, sum, e)))) (λ n. inl (h.0 (omega (arith, n)))) (cases_eq (count xs) 0)),
        (λ some. ⊎_elim (λ p. omega (arith, h.1 p, sum)) (λ q. omega (arith, k.1 q, sum)) some),
      )

  pub told_so : (xs : List Place) (P Q : Type 0) → Tells xs P → P ↔ Q → Tells xs Q
  told_so xs P Q h same = ((λ some. same.0 (h.0 some)), (λ q. h.1 (same.1 q)))

  -- a place that may be missing
  maybe_tells : (make : List ℕ → Place) → ((path : List ℕ) → (make path).path ≡ path) → (o : Option (List ℕ)) → Tells (option_to_list (option_map make o)) (o ≡ Some t)
  maybe_tells make same None = told_so [] ⊥ (None ≡ Some t) none_tells ((λ h. absurd h), (λ e. cc))
  maybe_tells make same (Some path) = told_so (make path ∷ []) (t ≡ (make path).path) (Some path ≡ Some t) (one_tells (make path)) ((λ e. ap (λ (x : List ℕ). Some x) (sym (e ∙ same path))), (λ e. let one : path ≡ t = cc in sym one ∙ sym (same path)))

  module _ (bytes : List ℕ) where
    -- the files that a stream reads, and all of its files
    abbrev pub reads : StreamSpec → List Place
    reads s = to_read s.path ∷ option_to_list (option_map to_read (second_path s.second))

    abbrev pub IsRead : ℕ → Type 0
    IsRead k = HasText bytes (Stream k) Path t ⊎ HasText bytes (Stream k) With t

    abbrev pub IsNamed : ℕ → Type 0
    IsNamed k = HasText bytes (Stream k) To t ⊎ IsRead k

    pub reads_tell : (k : ℕ) (s : StreamSpec) → SaysStream bytes k s → Tells (reads s) (IsRead k)
    reads_tell k s said =
        both_tell (to_read s.path ∷ []) (option_to_list (option_map to_read (second_path s.second))) (HasText bytes (Stream k) Path t) (HasText bytes (Stream k) With t)
        (told_so (to_read s.path ∷ []) (t ≡ s.path) (HasText bytes (Stream k) Path t) (one_tells (to_read s.path))
        ((λ e. path ∙ ap (λ (x : List ℕ). Some x) (sym e)), (λ e. let both : Some s.path ≡ Some t = sym path ∙ e in let one : s.path ≡ t = cc in sym one)))
        (told_so (option_to_list (option_map to_read (second_path s.second))) (second_path s.second ≡ Some t) (HasText bytes (Stream k) With t) (maybe_tells to_read (λ x. refl) (second_path s.second))
        ((λ e. side ∙ e), (λ e. sym side ∙ e)))
      where
        path : text_in (value_at bytes (Stream k) Path) ≡ Some s.path
        path = said_text (value_at bytes (Stream k) Path) s.path said.path

        side : text_in (value_at bytes (Stream k) With) ≡ second_path s.second
        side = side_text bytes k s.second said.second

    stream_tells : (k : ℕ) (s : StreamSpec) → SaysStream bytes k s → Tells (stream_places s) (IsNamed k)
    stream_tells k s said =
        both_tell (option_to_list (option_map to_write s.to)) (reads s) (HasText bytes (Stream k) To t) (IsRead k)
        (told_so (option_to_list (option_map to_write s.to)) (s.to ≡ Some t) (HasText bytes (Stream k) To t) (maybe_tells to_write (λ x. refl) s.to) ((λ e. to ∙ e), (λ e. sym to ∙ e)))
        (reads_tell k s said)
      where
        to : text_in (value_at bytes (Stream k) To) ≡ s.to
        to = given_text (value_at bytes (Stream k) To) s.to said.to

    pub streams_tell : (k : ℕ) (streams : List StreamSpec) → SaysStreams bytes k streams → Tells (flat_map stream_places streams) (IsOne IsNamed k (length streams))
    streams_tell k [] said = told_so [] ⊥ (IsOne IsNamed k 0) none_tells (no_more IsNamed k)
    streams_tell k (s ∷ streams) said =
        told_so (stream_places s ++ flat_map stream_places streams) (IsNamed k ⊎ IsOne IsNamed (k + 1) (length streams)) (IsOne IsNamed k (suc (length streams)))
        (both_tell (stream_places s) (flat_map stream_places streams) (IsNamed k) (IsOne IsNamed (k + 1) (length streams)) (stream_tells k s said.0) (streams_tell (k + 1) streams said.1)) (one_more IsNamed k (length streams))

    abbrev pub IsTable : ℕ → Type 0
    IsTable i = HasText bytes (Table i) Path t

    pub tables_tell : (i : ℕ) (tables : List TableSpec) → SaysTables bytes i tables → Tells (table_places tables) (IsOne IsTable i (length tables))
    tables_tell i [] said = told_so [] ⊥ (IsOne IsTable i 0) none_tells (no_more IsTable i)
    tables_tell i (table ∷ tables) said =
        told_so (to_read table.path ∷ table_places tables) (IsTable i ⊎ IsOne IsTable (i + 1) (length tables)) (IsOne IsTable i (suc (length tables)))
        (both_tell (to_read table.path ∷ []) (table_places tables) (IsTable i) (IsOne IsTable (i + 1) (length tables))
        (told_so (to_read table.path ∷ []) (t ≡ table.path) (IsTable i) (one_tells (to_read table.path))
        ((λ e. path ∙ ap (λ (x : List ℕ). Some x) (sym e)), (λ e. let both : Some table.path ≡ Some t = sym path ∙ e in let one : table.path ≡ t = cc in sym one)))
        (tables_tell (i + 1) tables said.1))
        (one_more IsTable i (length tables))
      where
        path : text_in (value_at bytes (Table i) Path) ≡ Some table.path
        path = said_text (value_at bytes (Table i) Path) table.path said.0.path

    -- the list's path, where there is a list, which has number k
    pub list_tells : (k : ℕ) (entries : List Members) (list : Option ListSpec) → SaysListed bytes k entries list → length entries ≡ length (option_to_list list)
        → (0 < length entries → (value_at bytes (Stream k) With ≡ None) × (value_at bytes (Stream k) To ≡ None)) → Tells (list_places list) (IsOne IsNamed k (length (option_to_list list)))
    list_tells k entries None said number bare = told_so [] ⊥ (IsOne IsNamed k 0) none_tells (no_more IsNamed k)
    list_tells k [] (Some l) said number bare = absurd (omega (arith, number))
    list_tells k (ms ∷ more) (Some l) (x, is, said) number bare =
        told_so (to_read l.path ∷ []) (t ≡ l.path) (IsOne IsNamed k 1) (one_tells (to_read l.path)) (
          (λ e. (one_more IsNamed k 0).0 (inl (inr (inl (path ∙ ap (λ (y : List ℕ). Some y) (sym e)))))),
          (λ h. ⊎_elim (λ named. own named) (λ none. absurd ((no_more IsNamed (k + 1)).1 none)) ((one_more IsNamed k 0).1 h)),
        )
      where
        some_same : (a b : ListSpec) → Some a ≡ Some b → a ≡ b
        some_same a b e = cc

        path : text_in (value_at bytes (Stream k) Path) ≡ Some l.path
        path = said_text (value_at bytes (Stream k) Path) x.path said.path ∙ ap (λ (y : ListSpec). Some y.path) (some_same x l (sym is))

        no_text : (o : Option Data) → o ≡ None → text_in o ≡ Some t → ⊥
        no_text o e h = let no : None ≡ Some t = sym (ap text_in e) ∙ h in cc

        clean : (value_at bytes (Stream k) With ≡ None) × (value_at bytes (Stream k) To ≡ None)
        clean = bare (omega arith)

        own : IsNamed k → t ≡ l.path
        own named = ⊎_elim (λ to. absurd (no_text (value_at bytes (Stream k) To) clean.1 to))
            (λ r. ⊎_elim (λ at. let both : Some l.path ≡ Some t = sym path ∙ at in let one : l.path ≡ t = cc in sym one) (λ side. absurd (no_text (value_at bytes (Stream k) With) clean.0 side)) r) named
