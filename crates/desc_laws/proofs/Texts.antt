-- Texts at keys, and values that have to be there.
use Rattle.std.proofs.Common.{◌≡◌, ℕ, Bool, true, false, List, Option, Some, None, Ok, Err, refl, ◌∙◌, sym, subst, Decides}
use Rattle.std.proofs.lemmas.Bool.{false≢true}
use Rattle.toml.specs.Data.{Data, as_str}
use Rattle.pipeline_desc.specs.Reading.{Reading, ◌>>=◌, refusal_of}
use Rattle.pipeline_desc.specs.Values.{required, text_that, where_given}
use Rattle.pipeline_desc.specs.declared.refusal.RefusalKind.TheVariants as refused
use Rattle.desc_laws.specs.First.{IsFirst}
use Rattle.desc_laws.specs.Flaws.{Key, Part, limit_kind, of_part}
use Rattle.desc_laws.specs.Has.{HasFlaw, flaws_at}
use Rattle.desc_laws.specs.Places.{value_at}
use Rattle.desc_laws.specs.Values.{IsOfType, IsText, IsTextThat, IsWithin, is_required}
use Rattle.desc_laws.proofs.Agree.{Agrees, or_refused}
use Rattle.desc_laws.proofs.Keys.{Rates, given_agrees, missing, view_agrees}

-- a value that may not be missing
pub required_agrees : {Y : Type 0} (bytes : List ℕ) (at : Part) (k : Key) (position : _) → refusal_of refused.WrongType position ≡ of_part at refused.WrongType → (read : Data → Reading Y) → is_required k ≡ true
    → ((d : Data) → value_at bytes at k ≡ Some d → Agrees (HasFlaw bytes) (flaws_at at k) (read d)) → Agrees (HasFlaw bytes) (flaws_at at k) (required read position (value_at bytes at k))
required_agrees bytes at k position told read needed each = go (value_at bytes at k) refl
  where
    go : (o : Option Data) → value_at bytes at k ≡ o → Agrees (HasFlaw bytes) (flaws_at at k) (required read position o)
    go None e = subst (IsFirst (HasFlaw bytes) (flaws_at at k)) (sym told) (missing bytes at k e needed)
    go (Some d) e = each d e

module _ (bytes : List ℕ) (at : Part) (k : Key) (d : Data) (e : value_at bytes at k ≡ Some d) where
  -- a text that passes a test, which decides whether it is within its limits
  pub text_agrees : (position : _) → refusal_of refused.WrongType position ≡ of_part at refused.WrongType → refusal_of refused.OutOfRange position ≡ of_part at (limit_kind k) → (test : List ℕ → Bool)
      → IsOfType k d ≡ IsText d → ((text : List ℕ) → as_str d ≡ Some text → Decides (test text) (IsWithin bytes at k d)) → Agrees (HasFlaw bytes) (flaws_at at k) (text_that test position d)
  text_agrees position told limit test type decides =
      view_agrees bytes at k d e position told as_str (λ text. or_refused (test text) (refusal_of refused.OutOfRange position) >>= (λ _. Ok text)) (λ text is. subst (λ A. A) (sym type) (text, is)) (λ t. subst (λ A. A) type t)
      (λ text is. rates text (decides text is) (test text) refl)
    where
      rates : (text : List ℕ) → Decides (test text) (IsWithin bytes at k d) → (b : Bool) → test text ≡ b → Rates bytes at k d e (or_refused b (refusal_of refused.OutOfRange position) >>= (λ _. Ok text))
      rates text h true t = h.0 t
      rates text h false t = ((λ w. false≢true (sym t ∙ h.1 w)), limit)

-- a text passes the test exactly where it is one that does
pub that_decides : (bytes : List ℕ) (at : Part) (k : Key) (test : List ℕ → Bool) → ((d : Data) → IsWithin bytes at k d ≡ IsTextThat test d) → (d : Data) (text : List ℕ) → as_str d ≡ Some text → Decides (test text) (IsWithin bytes at k d)
that_decides bytes at k test limits d text is = (
  (λ t. subst (λ A. A) (sym (limits d)) (text, is, t)),
  (λ w. let (other, that, t) = subst (λ A. A) (limits d) w in let both : Some text ≡ Some other = sym is ∙ that in let same : other ≡ text = cc in subst (λ x. test x ≡ true) same t),
)

module _ (bytes : List ℕ) (at : Part) (k : Key) (position : _) (told : refusal_of refused.WrongType position ≡ of_part at refused.WrongType) (limit : refusal_of refused.OutOfRange position ≡ of_part at (limit_kind k)) (test : List ℕ → Bool)
    (type : (d : Data) → IsOfType k d ≡ IsText d) (decides : (d : Data) (text : List ℕ) → as_str d ≡ Some text → Decides (test text) (IsWithin bytes at k d)) where
  -- a text that has to be there, and one that may be missing
  pub needed_text_agrees : is_required k ≡ true → Agrees (HasFlaw bytes) (flaws_at at k) (required (text_that test position) position (value_at bytes at k))
  needed_text_agrees needed = required_agrees bytes at k position told (text_that test position) needed (λ d e. text_agrees bytes at k d e position told limit test (type d) (decides d))

  pub given_text_agrees : is_required k ≡ false → Agrees (HasFlaw bytes) (flaws_at at k) (where_given (text_that test position) (value_at bytes at k))
  given_text_agrees optional = given_agrees bytes at k (text_that test position) optional (λ d e. text_agrees bytes at k d e position told limit test (type d) (decides d))

-- what was read behind another reading
pub bind_ok : {A B : Type 0} (m : Reading A) (f : A → Reading B) (y : B) → (m >>= f) ≡ Ok y → (x : A) × (m ≡ Ok x) × (f x ≡ Ok y)
bind_ok (Ok x) f y e = (x, refl, e)
bind_ok (Err r) f y e = (cc)
