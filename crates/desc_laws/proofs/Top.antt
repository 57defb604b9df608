-- The bytes of a description, and its top.
use Rattle.std.proofs.Common.{◌≡◌, ℕ, ◌≤◌, Bool, true, false, List, [], ◌∷◌, length, Option, Some, None, Ok, if◌then◌else◌, refl, ap, ◌∙◌, sym, subst, nat_le, leb-true, leb-false, le-leb, ℤ, pos, negsuc, arith, Decides}
use Rattle.std.specs.Prelude.{unwrap_or}
use Rattle.std.specs.Str.{is_utf8}
use Rattle.std.proofs.lemmas.Bool.{and_parts, and_from, false≢true}
use Rattle.std.proofs.lemmas.Str.{IsUtf8-from_is_utf8, is_utf8-from_IsUtf8}
use Rattle.toml.specs.Data.{Data, Items, no_items, Members, no_members, as_integer, as_array, as_table}
use Rattle.toml.specs.Parse.{parse_document}
use Rattle.pipeline_desc.specs.Limits.{is_between, most_bytes}
use Rattle.pipeline_desc.specs.Plans.{document_of, numbers_meant}
use Rattle.pipeline_desc.specs.Reading.{Reading, ◌>>=◌, present, refusal_of}
use Rattle.pipeline_desc.specs.Values.{all_known, each_as, limited, list_at, number_or, number_within, tables_at, where_given}
use Rattle.pipeline_desc.specs.declared.refusal.Refusal.{Refusal}
use Rattle.pipeline_desc.specs.declared.refusal.RefusalKind.{RefusalKind}
use Rattle.pipeline_desc.specs.declared.refusal.RefusalKind.TheVariants as refused
use Rattle.desc_laws.specs.First.{IsFirst}
use Rattle.desc_laws.specs.Flaws.{Key, Part, limit_kind, of_kind, of_part, refusal_for}
use Rattle.desc_laws.specs.Flaws.Flaw.{TooLong, NotUtf8, NotToml, OtherKey}
use Rattle.desc_laws.specs.Flaws.Key.{Version, MaxOpen, Queue, Chunk, Take}
use Rattle.desc_laws.specs.Flaws.Part.{Top}
use Rattle.desc_laws.specs.Has.{HasFlaw, flaws_at, flaws_of_bytes, flaws_of_key, flaws_of_keys, keys_known}
use Rattle.desc_laws.specs.Places.{document_in, entries_in, part_in, value_at}
use Rattle.desc_laws.specs.Values.{IsArrayOf, IsInteger, IsNumber, IsOfType, IsWithin, is_required}
use Rattle.desc_laws.proofs.Agree.{Agrees, or_refused, test_agrees, then_agrees, value_agrees}
use Rattle.desc_laws.proofs.Keys.{Rates, given_agrees, mistyped, none_other, nothing_wrong, rated_at, some_other, view_agrees}

pub bytes_agree : (bytes : List ℕ) → Agrees (HasFlaw bytes) flaws_of_bytes (document_of bytes)
bytes_agree bytes =
    then_agrees (HasFlaw bytes) (TooLong ∷ []) (NotUtf8 ∷ NotToml ∷ []) _ _
    (test_agrees (HasFlaw bytes) TooLong (nat_le (length bytes) most_bytes) (λ e h. omega (arith, h, leb-true (length bytes) most_bytes e)) (λ e. leb-false (length bytes) most_bytes e))
    (λ x is. then_agrees (HasFlaw bytes) (NotUtf8 ∷ []) (NotToml ∷ []) _ _
    (test_agrees (HasFlaw bytes) NotUtf8 (is_utf8 bytes) (λ e h. h (IsUtf8-from_is_utf8 bytes e)) (λ e t. false≢true (sym e ∙ is_utf8-from_IsUtf8 bytes t)))
    (λ y is. value_agrees (HasFlaw bytes) NotToml (parse_document bytes) refused.NotToml _ refl (λ ms e h. let no : None ≡ Some ms = sym h ∙ e in cc) (λ e. e)))

-- a part has no key of another name
pub keys_agree : (bytes : List ℕ) (at : Part) → Agrees (HasFlaw bytes) (OtherKey at ∷ []) (or_refused (all_known (keys_known bytes at) (part_in bytes at)) (refusal_for (OtherKey at)))
keys_agree bytes at =
    test_agrees (HasFlaw bytes) (OtherKey at) (all_known (keys_known bytes at) (part_in bytes at)) (none_other (keys_known bytes at) (part_in bytes at)) (some_other (keys_known bytes at) (part_in bytes at))

between : (low high n : ℕ) → is_between low high n ≡ true → (low ≤ n) × (n ≤ high)
between low high n e = let parts = and_parts (nat_le low n) (nat_le n high) e in (leb-true low n parts.0, leb-true n high parts.1)

from_between : (low high n : ℕ) → low ≤ n → n ≤ high → is_between low high n ≡ true
from_between low high n l h = and_from (nat_le low n) (nat_le n high) (le-leb low n l) (le-leb n high h)

same_number : (a b : ℕ) → pos a ≡ pos b → a ≡ b
same_number a b e = (cc)

-- a number that passes a test, which decides whether it is within its limits
pub number_or_agrees : (bytes : List ℕ) (at : Part) (k : Key) (kind : RefusalKind) (test : ℕ → Bool) (position : _) → refusal_of refused.WrongType position ≡ of_part at refused.WrongType → refusal_of kind position ≡ of_part at (limit_kind k)
    → is_required k ≡ false → ((d : Data) → IsOfType k d ≡ IsInteger d) → ((d : Data) (n : ℕ) → as_integer d ≡ Some (pos n) → Decides (test n) (IsWithin bytes at k d)) → ((d : Data) (n : ℕ) → as_integer d ≡ Some (negsuc n) → IsWithin bytes at k d → ⊥)
    → Agrees (HasFlaw bytes) (flaws_at at k) (where_given (number_or kind test position) (value_at bytes at k))
number_or_agrees bytes at k kind test position told limit optional type decides negative =
    given_agrees bytes at k (number_or kind test position) optional (λ d e. view_agrees bytes at k d e position told as_integer (λ z. present (limited test z) kind position)
    (λ z is. subst (λ A. A) (sym (type d)) (z, is)) (λ t. subst (λ A. A) (type d) t) (rates d e))
  where
    rates : (d : Data) (e : value_at bytes at k ≡ Some d) (z : ℤ) → as_integer d ≡ Some z → Rates bytes at k d e (present (limited test z) kind position)
    rates d e (negsuc n) is = (negative d n is, limit)
    rates d e (pos n) is = go (test n) refl
      where
        go : (b : Bool) → test n ≡ b → Rates bytes at k d e (present (if b then Some n else None) kind position)
        go true t = (decides d n is).0 t
        go false t = ((λ w. false≢true (sym t ∙ (decides d n is).1 w)), limit)

-- a number from low to high
pub number_agrees : (bytes : List ℕ) (at : Part) (k : Key) (low high : ℕ) (position : _) → refusal_of refused.WrongType position ≡ of_part at refused.WrongType → refusal_of refused.OutOfRange position ≡ of_part at (limit_kind k)
    → is_required k ≡ false → ((d : Data) → IsOfType k d ≡ IsInteger d) → ((d : Data) → IsWithin bytes at k d ≡ IsNumber low high d)
    → Agrees (HasFlaw bytes) (flaws_at at k) (where_given (number_within low high position) (value_at bytes at k))
number_agrees bytes at k low high position told limit optional type limits = number_or_agrees bytes at k refused.OutOfRange (is_between low high) position told limit optional type decides negative
  where
    decides : (d : Data) (n : ℕ) → as_integer d ≡ Some (pos n) → Decides (is_between low high n) (IsWithin bytes at k d)
    decides d n is = (
      (λ t. let parts = between low high n t in subst (λ A. A) (sym (limits d)) (n, is, parts.0, parts.1)),
      (λ w. let (m, number, l, h) = subst (λ A. A) (limits d) w in let same : Some (pos n) ≡ Some (pos m) = sym is ∙ number in let one : n ≡ m = cc in from_between low high n (omega (arith, l, one)) (omega (arith, h, one))),
    )

    negative : (d : Data) (n : ℕ) → as_integer d ≡ Some (negsuc n) → IsWithin bytes at k d → ⊥
    negative d n is w = let (m, number, l, h) = subst (λ A. A) (limits d) w in let no : Some (negsuc n) ≡ Some (pos m) = sym is ∙ number in cc

-- a value of an array of such entries, and then what is made of them
pub array_agrees : {A Y : Type 0} (bytes : List ℕ) (at : Part) (k : Key) (d : Data) (e : value_at bytes at k ≡ Some d) (f : Data → Option A) (position : _) → refusal_of refused.WrongType position ≡ of_part at refused.WrongType → (rest : List A → Reading Y)
    → IsOfType k d ≡ IsArrayOf f d → ((xs : List A) → entries_in f (Some d) ≡ xs → Rates bytes at k d e (rest xs))
    → Agrees (HasFlaw bytes) (flaws_at at k) (list_at f position (Some d) >>= rest)
array_agrees {A = A} {Y = Y} bytes at k d e f position told rest type rates = go (as_array d) refl
  where
    wrong : (IsArrayOf f d → ⊥) → IsFirst (HasFlaw bytes) (flaws_at at k) (refusal_of refused.WrongType position)
    wrong h = subst (IsFirst (HasFlaw bytes) (flaws_at at k)) (sym told) (mistyped bytes at k d e (λ t. h (subst (λ B. B) type t)))

    each : (items : Items) → as_array d ≡ Some items → (p : Option (List A)) → each_as f items ≡ p → Agrees (HasFlaw bytes) (flaws_at at k) (present p refused.WrongType position >>= rest)
    each items is None none = wrong (λ t. let (other, xs, that, seen) = t in let same : Some items ≡ Some other = sym is ∙ that in let one : other ≡ items = cc in let no : None ≡ Some xs = sym none ∙ (ap (each_as f) (sym one) ∙ seen) in cc)
    each items is (Some xs) some = rated_at bytes at k d e (subst (λ B. B) (sym type) (items, xs, is, some)) (rest xs)
        (rates xs (ap (λ o. unwrap_or (each_as f (unwrap_or o no_items)) []) is ∙ ap (λ o. unwrap_or o []) some))

    go : (o : Option Items) → as_array d ≡ o → Agrees (HasFlaw bytes) (flaws_at at k) ((present o refused.WrongType position >>= (λ ds. present (each_as f ds) refused.WrongType position)) >>= rest)
    go None is = wrong (λ t. let (items, xs, that, seen) = t in let no : None ≡ Some items = sym is ∙ that in cc)
    go (Some items) is = each items is (each_as f items) refl

-- at most so many tables
pub tables_agree : (bytes : List ℕ) (k : Key) (most : ℕ) → limit_kind k ≡ refused.OutOfRange → is_required k ≡ false → ((d : Data) → IsOfType k d ≡ IsArrayOf as_table d) → ((d : Data) → IsWithin bytes Top k d ≡ (length (entries_in as_table (Some d)) ≤ most))
    → Agrees (HasFlaw bytes) (flaws_at Top k) (tables_at most (value_at bytes Top k))
tables_agree bytes k most kind optional type limits = go (value_at bytes Top k) refl
  where
    go : (o : Option Data) → value_at bytes Top k ≡ o → Agrees (HasFlaw bytes) (flaws_at Top k) (tables_at most o)
    go None e = rw (le-leb 0 most (omega arith)) (nothing_wrong bytes Top k e optional)
    go (Some d) e = array_agrees bytes Top k d e as_table _ refl _ (type d) (λ xs is. rates xs is (nat_le (length xs) most) refl)
      where
        rates : (xs : List Members) → entries_in as_table (Some d) ≡ xs → (b : Bool) → nat_le (length xs) most ≡ b → Rates bytes Top k d e (or_refused b (of_kind refused.OutOfRange) >>= (λ _. Ok xs))
        rates xs is true t = subst (λ B. B) (sym (limits d)) (let same = ap length is in omega (arith, same, leb-true (length xs) most t))
        rates xs is false t = ((λ w. let few : length (entries_in as_table (Some d)) ≤ most = subst (λ B. B) (limits d) w in let same = ap length is in omega (arith, same, few, leb-false (length xs) most t)), ap of_kind (sym kind))

-- the value at a key, and then those at others
pub key_then : {A B : Type 0} (bytes : List ℕ) (at : Part) (k : Key) (ks : List Key) (m : Reading A) (f : A → Reading B) → Agrees (HasFlaw bytes) (flaws_of_key bytes at k) m → ((x : A) → m ≡ Ok x → Agrees (HasFlaw bytes) (flaws_of_keys bytes at ks) (f x))
    → Agrees (HasFlaw bytes) (flaws_of_keys bytes at (k ∷ ks)) (m >>= f)
key_then bytes at k ks m f one more = then_agrees (HasFlaw bytes) (flaws_of_key bytes at k) (flaws_of_keys bytes at ks) m f one more

-- the numbers of the top
pub numbers_agree : (bytes : List ℕ) → Agrees (HasFlaw bytes) (flaws_of_keys bytes Top (Version ∷ MaxOpen ∷ Queue ∷ Chunk ∷ Take ∷ [])) (numbers_meant (document_in bytes))
numbers_agree bytes =
    key_then bytes Top Version (MaxOpen ∷ Queue ∷ Chunk ∷ Take ∷ []) _ _ (number_agrees bytes Top Version 1 2 _ refl refl refl (λ d. refl) (λ d. refl)) (λ x is.
    key_then bytes Top MaxOpen (Queue ∷ Chunk ∷ Take ∷ []) _ _ (number_agrees bytes Top MaxOpen 1 64 _ refl refl refl (λ d. refl) (λ d. refl)) (λ x is.
    key_then bytes Top Queue (Chunk ∷ Take ∷ []) _ _ (number_agrees bytes Top Queue 1 64 _ refl refl refl (λ d. refl) (λ d. refl)) (λ x is.
    key_then bytes Top Chunk (Take ∷ []) _ _ (number_agrees bytes Top Chunk 1 65536 _ refl refl refl (λ d. refl) (λ d. refl)) (λ x is.
    key_then bytes Top Take [] _ _ (number_agrees bytes Top Take 0 1000000000 _ refl refl refl (λ d. refl) (λ d. refl)) (λ x is. tt)))))

is_read : (a b : Bool) (o : Option Members) (ms : Members) (r s : Refusal) (position : _) → (or_refused a r >>= (λ _. or_refused b s >>= (λ _. present o refused.NotToml position))) ≡ Ok ms → unwrap_or o no_members ≡ ms
is_read true true (Some x) ms r s position e = (cc)
is_read true true None ms r s position e = (cc)
is_read true false o ms r s position e = (cc)
is_read false b o ms r s position e = (cc)

-- a document that was read is the one that the bytes write
pub document_is : (bytes : List ℕ) (ms : Members) → document_of bytes ≡ Ok ms → document_in bytes ≡ ms
document_is bytes ms e = is_read (nat_le (length bytes) most_bytes) (is_utf8 bytes) (parse_document bytes) ms (refusal_for TooLong) (refusal_for NotUtf8) _ e
