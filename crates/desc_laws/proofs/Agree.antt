-- A reading that agrees with a list of flaws: it refuses for the first that is there, and reads where none is.
use Rattle.std.proofs.Common.{◌≡◌, ◌↔◌, Bool, true, false, List, [], ◌∷◌, ◌++◌, Option, Some, None, Ok, Err, inl, inr, ⊎_elim, refl, ap, ◌∙◌, sym, subst, append-nil, if◌then◌else◌}
use Rattle.pipeline_desc.specs.Reading.{Reading, ◌>>=◌, present, refusal_of}
use Rattle.pipeline_desc.specs.declared.refusal.RefusalKind.{RefusalKind}
use Rattle.pipeline_desc.specs.declared.refusal.Refusal.{Refusal}
use Rattle.desc_laws.specs.First.{IsFirst, NoneOf}
use Rattle.desc_laws.specs.Flaws.{Flaw, refusal_for}

-- nothing, where the test passes
abbrev pub or_refused : Bool → Refusal → Reading (Unit {0})
or_refused b r = if b then Ok tt else Err r

module _ (Has : Flaw → Type 0) where
  -- where none of the flaws is there something is read, and else the first is told
  abbrev pub Agrees : {A : Type 0} → List Flaw → Reading A → Type 0
  Agrees fs (Ok x) = NoneOf Has fs
  Agrees fs (Err r) = IsFirst Has fs r

  none_append : (fs gs : List Flaw) → NoneOf Has fs → NoneOf Has gs → NoneOf Has (fs ++ gs)
  none_append [] gs h k = k
  none_append (f ∷ fs) gs h k = (h.0, none_append fs gs h.1 k)

  first_behind : (fs gs : List Flaw) (r : Refusal) → NoneOf Has fs → IsFirst Has gs r → IsFirst Has (fs ++ gs) r
  first_behind [] gs r h k = k
  first_behind (f ∷ fs) gs r h k = inr (h.0, first_behind fs gs r h.1 k)

  first_before : (fs gs : List Flaw) (r : Refusal) → IsFirst Has fs r → IsFirst Has (fs ++ gs) r
  first_before [] gs r h = absurd h
  first_before (f ∷ fs) gs r h = ⊎_elim (λ here. inl here) (λ later. inr (later.0, first_before fs gs r later.1)) h

  behind : {A : Type 0} (fs gs : List Flaw) (m : Reading A) → NoneOf Has fs → Agrees gs m → Agrees (fs ++ gs) m
  behind fs gs (Ok x) h k = none_append fs gs h k
  behind fs gs (Err r) h k = first_behind fs gs r h k

  -- what is read next has the flaws behind
  pub then_agrees : {A B : Type 0} (fs gs : List Flaw) (m : Reading A) (f : A → Reading B) → Agrees fs m → ((x : A) → m ≡ Ok x → Agrees gs (f x)) → Agrees (fs ++ gs) (m >>= f)
  then_agrees fs gs (Ok x) f h k = behind fs gs (f x) h (k x refl)
  then_agrees fs gs (Err r) f h k = first_before fs gs r h

  -- what is made of what is read
  pub made_agrees : {A B : Type 0} (fs : List Flaw) (m : Reading A) (f : A → Reading B) → Agrees fs m → ((x : A) → m ≡ Ok x → Agrees [] (f x)) → Agrees fs (m >>= f)
  made_agrees fs m f h k = subst (λ l. Agrees l (m >>= f)) (append-nil fs) (then_agrees fs [] m f h k)

  none_not_first : (fs : List Flaw) (r : Refusal) → NoneOf Has fs → IsFirst Has fs r → ⊥
  none_not_first [] r h k = k
  none_not_first (f ∷ fs) r h k = ⊎_elim (λ here. h.0 here.0) (λ later. none_not_first fs r h.1 later.1) k

  -- one refusal alone is the first
  one_first : (fs : List Flaw) (r s : Refusal) → IsFirst Has fs r → IsFirst Has fs s → r ≡ s
  one_first [] r s h k = absurd h
  one_first (f ∷ fs) r s h k =
      ⊎_elim
      (λ here. ⊎_elim (λ other. here.1 ∙ sym other.1) (λ later. absurd (later.0 here.0)) k)
      (λ behind. ⊎_elim (λ other. absurd (behind.0 other.0)) (λ later. one_first fs r s behind.1 later.1) k)
      h

  -- so the reading is refused for r exactly where r is told of the first flaw
  pub refused_for_first : {A : Type 0} (fs : List Flaw) (m : Reading A) (r : Refusal) → Agrees fs m → (m ≡ Err r) ↔ IsFirst Has fs r
  refused_for_first fs (Ok x) r h = ((λ e. (cc)), λ k. absurd (none_not_first fs r h k))
  refused_for_first {A} fs (Err s) r h = ((λ e. let same : s ≡ r = cc in subst (IsFirst Has fs) same h), λ k. ap (λ t. Err t) (one_first fs s r h k))

  -- and something is read exactly where none is there
  pub reads_where_none : {A : Type 0} (fs : List Flaw) (m : Reading A) → Agrees fs m → ((x : A) × (m ≡ Ok x)) ↔ NoneOf Has fs
  reads_where_none fs (Ok x) h = ((λ e. h), λ k. (x, refl))
  reads_where_none fs (Err s) h = ((λ e. let no : Err s ≡ Ok e.0 = e.1 in cc), λ k. absurd (none_not_first fs s k h))

  -- a test, and the flaw that is there exactly where it doesn't pass
  pub test_agrees : (f : Flaw) (b : Bool) → (b ≡ true → Has f → ⊥) → (b ≡ false → Has f) → Agrees (f ∷ []) (or_refused b (refusal_for f))
  test_agrees f true sound whole = (sound refl, tt)
  test_agrees f false sound whole = inl (whole refl, refl)

  -- a value, and the flaw that is there exactly where there is none
  pub value_agrees : {A : Type 0} (f : Flaw) (o : Option A) (kind : RefusalKind) (position : _) → refusal_of kind position ≡ refusal_for f → ((x : A) → o ≡ Some x → Has f → ⊥) → (o ≡ None → Has f) → Agrees (f ∷ []) (present o kind position)
  value_agrees f (Some x) kind position told sound whole = (sound x refl, tt)
  value_agrees f None kind position told sound whole = inl (whole refl, told)
