-- Numbers that were read of an accepted description.
use Rattle.std.proofs.Common.{◌≡◌, ℕ, Bool, true, false, Option, Some, None, Ok, if◌then◌else◌, refl, ap, ◌∙◌, sym, subst, ℤ, pos, negsuc}
use Rattle.std.specs.Prelude.{unwrap_or}
use Rattle.toml.specs.Data.{Data, as_integer}
use Rattle.pipeline_desc.specs.Limits.{is_another_stream, is_between}
use Rattle.pipeline_desc.specs.Reading.{◌>>=◌, present}
use Rattle.pipeline_desc.specs.Streams.{until_meant}
use Rattle.pipeline_desc.specs.Values.{limited, number_within, where_given}
use Rattle.pipeline_desc.specs.declared.refusal.RefusalKind.{RefusalKind}
use Rattle.pipeline_desc.specs.declared.refusal.RefusalKind.TheVariants as refused
use Rattle.desc_laws.specs.Says.{SaysLimit, SaysNumber}
use Rattle.desc_laws.proofs.Positions.{at_stream, at_top}

-- a number that was read stands there
number_at : (o : Option ℤ) (kind : RefusalKind) (test : ℕ → Bool) (position : _) (z : Option ℕ) → ((present o refused.WrongType position >>= (λ i. present (limited test i) kind position)) >>= (λ x. Ok (Some x))) ≡ Ok z → (n : ℕ) × (o ≡ Some (pos n)) × (z ≡ Some n)
number_at None kind test position z e = (cc)
number_at (Some (negsuc n)) kind test position z e = (cc)
number_at (Some (pos n)) kind test position z e = go (test n) e
  where
    go : (b : Bool) → (present (if b then Some n else None) kind position >>= (λ x. Ok (Some x))) ≡ Ok z → (m : ℕ) × (Some (pos n) ≡ Some (pos m)) × (z ≡ Some m)
    go true e = let same : Some n ≡ z = cc in (n, refl, sym same)
    go false e = (cc)

pub says_number : (o : Option Data) (low high otherwise : ℕ) (z : Option ℕ) → where_given (number_within low high at_top.0) o ≡ Ok z → SaysNumber o otherwise (unwrap_or z otherwise)
says_number None low high otherwise z e = let none : None ≡ z = cc in ap (λ o. unwrap_or o otherwise) (sym none)
says_number (Some d) low high otherwise z e =
    let (n, is, same) = number_at (as_integer d) refused.OutOfRange (is_between low high) at_top.0 z e in subst (λ m. as_integer d ≡ Some (pos m)) (sym (ap (λ o. unwrap_or o otherwise) same)) is

pub says_limit : (o : Option Data) (low high : ℕ) (z : Option ℕ) → where_given (number_within low high at_top.0) o ≡ Ok z → SaysLimit o z
says_limit None low high z e = let none : None ≡ z = cc in sym none
says_limit (Some d) low high z e = number_at (as_integer d) refused.OutOfRange (is_between low high) at_top.0 z e

-- so is the number of a stream at `until`
pub says_until : (k : ℕ) (o : Option Data) (count : ℕ) (z : Option ℕ) → where_given (until_meant count k) o ≡ Ok z → SaysLimit o z
says_until k None count z e = let none : None ≡ z = cc in sym none
says_until k (Some d) count z e = number_at (as_integer d) refused.BadUntil (is_another_stream count k) (at_stream k).0 z e

-- so is a number of a stream or of the list
pub says_number_at : (k : ℕ) (o : Option Data) (low high otherwise : ℕ) (z : Option ℕ) → where_given (number_within low high (at_stream k).0) o ≡ Ok z → SaysNumber o otherwise (unwrap_or z otherwise)
says_number_at k None low high otherwise z e = let none : None ≡ z = cc in ap (λ o. unwrap_or o otherwise) (sym none)
says_number_at k (Some d) low high otherwise z e =
    let (n, is, same) = number_at (as_integer d) refused.OutOfRange (is_between low high) (at_stream k).0 z e in subst (λ m. as_integer d ≡ Some (pos m)) (sym (ap (λ o. unwrap_or o otherwise) same)) is

-- one number alone is said
pub says_one : (o : Option Data) (otherwise m n : ℕ) → SaysNumber o otherwise m → SaysNumber o otherwise n → m ≡ n
says_one None otherwise m n a b = a ∙ sym b
says_one (Some d) otherwise m n a b = let both : Some (pos m) ≡ Some (pos n) = sym a ∙ b in cc
