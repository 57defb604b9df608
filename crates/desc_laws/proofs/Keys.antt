-- The keys of a part, and the value at one of them.
use Rattle.std.specs.Cmp.Lexicographic.{slice_cmp}
use Rattle.std.specs.Ordering.{match_ordering}
use Rattle.std.proofs.lemmas.Map.Text.{is_eq-slice_cmp}
use Rattle.std.proofs.Common.{◌≡◌, ℕ, Bool, Ordering, Less, Equal, Greater, nat_cmp, is_eq, true, false, List, [], ◌∷◌, Option, Some, None, Ok, Err, inl, inr, ⊎_elim, refl, ◌∙◌, sym, subst}
use Rattle.std.specs.List.{list_any}
use Rattle.std.specs.Str.{bytes_eq}
use Rattle.std.proofs.lemmas.Bool.{or_cases, or_left, or_right, and_parts, and_cases, false≢true, true≢false}
use Rattle.std.proofs.lemmas.Slice.Eq.{bytes_eq-Decides}
use Rattle.chunk_core.specs.Lists.{IsAmong}
use Rattle.chunk_core.specs.Lists.IsAmong.{here, there}
use Rattle.chunk_core.proofs.Members.{among_cons, among_nil}
use Rattle.toml.specs.Data.{Data, Members, no_members, member, get_member}
use Rattle.pipeline_desc.specs.Reading.{Reading, ◌>>=◌, present, refusal_of}
use Rattle.pipeline_desc.specs.Values.{all_known, where_given}
use Rattle.pipeline_desc.specs.declared.refusal.RefusalKind.TheVariants as refused
use Rattle.desc_laws.specs.First.{IsFirst, NoneOf}
use Rattle.desc_laws.specs.Flaws.{Key, Part, limit_kind, of_part}
use Rattle.desc_laws.specs.Has.{HasFlaw, HasOther, flaws_at}
use Rattle.desc_laws.specs.Places.{value_at}
use Rattle.desc_laws.specs.Values.{IsMistyped, IsOfType, IsOutside, IsWithin, is_required}
use Rattle.desc_laws.proofs.Agree.{Agrees, made_agrees}

is_among : (k : List ℕ) (names : List (List ℕ)) → list_any (bytes_eq k) names ≡ true → IsAmong k names
is_among k [] h = absurd (false≢true h)
is_among k (n ∷ names) h =
    ⊎_elim (λ e. subst (λ m. IsAmong k (m ∷ names)) ((bytes_eq-Decides k n).0 e) (here names)) (λ later. there n (is_among k names later)) (or_cases (bytes_eq k n) (list_any (bytes_eq k) names) h)

pub is_found : (k : List ℕ) (names : List (List ℕ)) → IsAmong k names → list_any (bytes_eq k) names ≡ true
is_found k [] i = absurd (among_nil i)
is_found k (n ∷ names) i =
    ⊎_elim (λ e. or_left (bytes_eq k n) (list_any (bytes_eq k) names) ((bytes_eq-Decides k n).1 e)) (λ later. or_right (bytes_eq k n) (list_any (bytes_eq k) names) (is_found k names later)) (among_cons i)

-- all keys are known exactly where there is no other
pub none_other : (names : List (List ℕ)) (ms : Members) → all_known names ms ≡ true → HasOther names ms → ⊥
none_other names no_members h o = o
none_other names (member k d ms) h o =
    let parts = and_parts (list_any (bytes_eq k) names) (all_known names ms) h in
    ⊎_elim (λ here. here (is_among k names parts.0)) (λ later. none_other names ms parts.1 later) o

pub some_other : (names : List (List ℕ)) (ms : Members) → all_known names ms ≡ false → HasOther names ms
some_other names no_members h = absurd (true≢false h)
some_other names (member k d ms) h =
    ⊎_elim (λ here. inl (λ i. false≢true (sym here ∙ is_found k names i))) (λ later. inr (some_other names ms later)) (and_cases (list_any (bytes_eq k) names) (all_known names ms) h)

module _ (bytes : List ℕ) (at : Part) (k : Key) where
  abbrev Flawless : Type 0
  Flawless = NoneOf (HasFlaw bytes) (flaws_at at k)

  -- no value, where none has to be
  pub nothing_wrong : value_at bytes at k ≡ None → is_required k ≡ false → Flawless
  nothing_wrong e optional = ((λ h. false≢true (sym optional ∙ subst (IsMistyped k) e h)), ((λ h. subst (IsOutside bytes at k) e h), tt))

  -- no value, where one has to be
  pub missing : value_at bytes at k ≡ None → is_required k ≡ true → IsFirst (HasFlaw bytes) (flaws_at at k) (of_part at refused.WrongType)
  missing e needed = inl (subst (IsMistyped k) (sym e) needed, refl)

  module _ (d : Data) (e : value_at bytes at k ≡ Some d) where
    pub mistyped : (IsOfType k d → ⊥) → IsFirst (HasFlaw bytes) (flaws_at at k) (of_part at refused.WrongType)
    mistyped h = inl (subst (IsMistyped k) (sym e) h, refl)

    pub outside : IsOfType k d → (IsWithin bytes at k d → ⊥) → IsFirst (HasFlaw bytes) (flaws_at at k) (of_part at (limit_kind k))
    outside t h = inr ((λ m. subst (IsMistyped k) e m t), inl (subst (IsOutside bytes at k) (sym e) (t, h), refl))

    pub within : IsOfType k d → IsWithin bytes at k d → Flawless
    within t w = ((λ m. subst (IsMistyped k) e m t), ((λ o. (subst (IsOutside bytes at k) e o).1 w), tt))

    -- what is made of a value within its limits, or that it isn't
    abbrev pub Rates : {Y : Type 0} → Reading Y → Type 0
    Rates (Ok y) = IsWithin bytes at k d
    Rates (Err r) = (IsWithin bytes at k d → ⊥) × (r ≡ of_part at (limit_kind k))

    pub rated_at : {Y : Type 0} (t : IsOfType k d) (m : Reading Y) → Rates m → Agrees (HasFlaw bytes) (flaws_at at k) m
    rated_at t (Ok y) h = within t h
    rated_at t (Err r) h = subst (IsFirst (HasFlaw bytes) (flaws_at at k)) (sym h.1) (outside t h.0)

    -- a value of the key's type, as `view` sees it, and then what is made of it
    pub view_agrees : {X Y : Type 0} (position : _) → refusal_of refused.WrongType position ≡ of_part at refused.WrongType → (view : Data → Option X) (rest : X → Reading Y) → ((x : X) → view d ≡ Some x → IsOfType k d) → (IsOfType k d → (x : X) × (view d ≡ Some x)) → ((x : X) → view d ≡ Some x → Rates (rest x))
        → Agrees (HasFlaw bytes) (flaws_at at k) (present (view d) refused.WrongType position >>= rest)
    view_agrees {X} position told view rest from to rates = go (view d) refl
      where
        go : (o : Option X) → view d ≡ o → Agrees (HasFlaw bytes) (flaws_at at k) (present o refused.WrongType position >>= rest)
        go None is = subst (IsFirst (HasFlaw bytes) (flaws_at at k)) (sym told) (mistyped (λ t. let (x, some) = to t in let no : None ≡ Some x = sym is ∙ some in cc))
        go (Some x) is = rated_at (from x is) (rest x) (rates x is)

-- a value that may be missing
pub given_agrees : {Y : Type 0} (bytes : List ℕ) (at : Part) (k : Key) (read : Data → Reading Y) → is_required k ≡ false
    → ((d : Data) → value_at bytes at k ≡ Some d → Agrees (HasFlaw bytes) (flaws_at at k) (read d)) → Agrees (HasFlaw bytes) (flaws_at at k) (where_given read (value_at bytes at k))
given_agrees bytes at k read optional each = go (value_at bytes at k) refl
  where
    go : (o : Option Data) → value_at bytes at k ≡ o → Agrees (HasFlaw bytes) (flaws_at at k) (where_given read o)
    go None e = nothing_wrong bytes at k e optional
    go (Some d) e = made_agrees (HasFlaw bytes) (flaws_at at k) (read d) (λ x. Ok (Some x)) (each d e) (λ x is. tt)

passed_by : (o : Ordering) (rest : Option Data) (d : Data) → is_eq o ≡ false → match_ordering o rest (Some d) rest ≡ rest
passed_by Less rest d e = refl
passed_by Equal rest d e = absurd (true≢false e)
passed_by Greater rest d e = refl

-- where all keys are known, nothing stands at another one
pub unknown_missing : (names : List (List ℕ)) (key : List ℕ) (ms : Members) → all_known names ms ≡ true → list_any (bytes_eq key) names ≡ false → get_member key ms ≡ None
unknown_missing names key no_members h other = refl
unknown_missing names key (member k d ms) h other =
    let parts = and_parts (list_any (bytes_eq k) names) (all_known names ms) h in
    passed_by (slice_cmp nat_cmp key k) (get_member key ms) d (is_eq-slice_cmp key k ∙ differ (bytes_eq key k) refl parts.0) ∙ unknown_missing names key ms parts.1 other
  where
    differ : (b : Bool) → bytes_eq key k ≡ b → list_any (bytes_eq k) names ≡ true → b ≡ false
    differ true e known = absurd (true≢false (sym (subst (λ l. list_any (bytes_eq l) names ≡ true) (sym ((bytes_eq-Decides key k).0 e)) known) ∙ other))
    differ false e known = refl
