-- The names of the files that a rotation makes.
use Rattle.std.proofs.Common.{◌≡◌, ◌≢◌, ◌+◌, ◌<◌, ◌≤◌, ◌^◌, ℕ, Bool, true, false, ◌&&◌, nat_lt, [], ◌∷◌, ◌++◌, length, drop, get_or, Option, Some, None, Ok, refl, sym, ap, ◌∙◌, subst, ⊎_elim, arith}
use Rattle.std.specs.Prelude.{codes, decimal}
use Rattle.std.specs.Str.{bytes_eq}
use Rattle.std.specs.Str.Parse.{AllDigits, ParsesUnsigned, without_leading_plus}
use Rattle.std.proofs.lemmas.Bool.{and_parts, both_ways, cases_Bool, eq-eqb, leb-true, lt-ltb}
use Rattle.std.proofs.lemmas.Fmt.{decimal_is_IsNumeral}
use Rattle.std.proofs.lemmas.Slice.Eq.{bytes_eq-Decides}
use Rattle.std.proofs.lemmas.Str.Parse.{without_leading_plus_none}
use Rattle.std.proofs.Math.Seq.{drop-append_seam, drop-append-add}
use Rattle.std.specs.Char.{digit_value}
use Rattle.clap.specs.Words.{Text}
use Rattle.command_words.proofs.Digits.{number_read}
use Rattle.command_words.specs.Numbers.{number_of}
use Rattle.command_words.specs.Words.{MayRotate, file_name, is_file_of, is_file_path, is_prefix, most_files, names_file}

-- the number that was read, if any, is one of a file whose name the path is
abbrev names_read : Text → Text → Option ℕ → Bool
names_read prefix path read = elim read [ Some i ↦ names_file prefix path i | None ↦ false ]

differ : (xs ys : Text) → xs ≢ ys → bytes_eq xs ys ≡ false
differ xs ys n = ⊎_elim (λ t. absurd (n ((bytes_eq-Decides xs ys).0 t))) (λ f. f) (cases_Bool (bytes_eq xs ys))

nothing_and : (b : Bool) → (b && false) ≡ false
nothing_and true = refl
nothing_and false = refl

not_read : (prefix path : Text) → ((i : ℕ) → path ≢ file_name prefix i) → (read : Option ℕ) → false ≡ names_read prefix path read
not_read prefix path h None = refl
not_read prefix path h (Some i) = rw (differ path (file_name prefix i) (h i)) (sym (nothing_and (nat_lt i most_files)))

-- no file is named so
pub not_a_file : (prefix path : Text) → ((i : ℕ) → path ≢ file_name prefix i) → false ≡ is_file_of prefix path
not_a_file prefix path h = not_read prefix path h (number_of (drop (length prefix + 1) path))

-- no dot stands behind the prefix
pub by_no_dot : (prefix path behind : Text) → path ≡ prefix ++ behind → ((rest : Text) → behind ≢ codes "." ++ rest) → false ≡ is_file_of prefix path
by_no_dot prefix path behind is without = not_a_file prefix path (λ i e. without (decimal i) (sym (drop-append_seam prefix behind) ∙ (ap (λ t. drop (length prefix) t) (sym is ∙ e) ∙ drop-append_seam prefix (codes "." ++ decimal i))))

behind_same : (p xs ys : Text) → bytes_eq (p ++ xs) (p ++ ys) ≡ bytes_eq xs ys
behind_same [] xs ys = refl
behind_same (c ∷ p) xs ys = rw (eq-eqb c c refl) (behind_same p xs ys)

bytes_eq_comm : (xs ys : Text) → bytes_eq xs ys ≡ bytes_eq ys xs
bytes_eq_comm xs ys =
    ⊎_elim
    (λ t. t ∙ sym ((bytes_eq-Decides ys xs).1 (sym ((bytes_eq-Decides xs ys).0 t))))
    (λ f. f ∙ sym (differ ys xs (λ e. both_ways (bytes_eq xs ys) f ((bytes_eq-Decides xs ys).1 (sym e)))))
    (cases_Bool (bytes_eq xs ys))

-- what stands behind the prefix and a dot is a number
pub by_number : (prefix path text : Text) (i : ℕ) → path ≡ prefix ++ (codes "." ++ text) → number_of text ≡ Some i → (nat_lt i most_files && bytes_eq (decimal i) text) ≡ is_file_of prefix path
by_number prefix path text i is read =
    let number : number_of (drop (length prefix + 1) path) ≡ Some i = ap (λ t. number_of (drop (length prefix + 1) t)) is ∙ (ap number_of (drop-append-add prefix (codes "." ++ text) 1) ∙ read) in
    let same : bytes_eq path (file_name prefix i) ≡ bytes_eq (decimal i) text =
    ap (λ t. bytes_eq t (file_name prefix i)) is ∙ (behind_same prefix (codes "." ++ text) (codes "." ++ decimal i) ∙ (behind_same (codes ".") text (decimal i) ∙ bytes_eq_comm text (decimal i))) in
    sym (ap (λ r. names_read prefix path r) number ∙ ap (λ b. nat_lt i most_files && b) same)

-- where the number is one of a file, the path names it where it ends with that number as it is shown
pub by_shown : (prefix path behind text shown : Text) (i : ℕ) (b : Bool) → path ≡ prefix ++ behind → behind ≡ codes "." ++ text → number_of text ≡ Some i → i < most_files → shown ≡ decimal i
    → b ≡ bytes_eq shown text → b ≡ is_file_of prefix path
by_shown prefix path behind text shown i b is dot read low show same =
    same ∙ (ap (λ t. bytes_eq t text) show ∙ (ap (λ f. f && bytes_eq (decimal i) text) (sym (lt-ltb i most_files low)) ∙ by_number prefix path text i (is ∙ ap (λ t. prefix ++ t) dot) read))

not_plus : (ds : Text) → AllDigits 10 ds → get_or ds 0 0 ≢ 43
not_plus [] h e = absurd (omega (arith, e))
not_plus (d ∷ ds) h e = let low : digit_value 43 < 10 = subst (λ x. digit_value x < 10) e h.0 in absurd (omega (arith, low))

-- a number is read from its own digits
number_of-decimal : (n : ℕ) → n < 2 ^ 64 → number_of (decimal n) ≡ Some n
number_of-decimal n small =
    let is = decimal_is_IsNumeral n small in
    let plain : without_leading_plus (decimal n) ≡ decimal n = without_leading_plus_none (decimal n) (not_plus (decimal n) is.0.1) in
    let parses : ParsesUnsigned {E = Unit {0}} 64 10 (decimal n) (Ok n) = ((rw plain is.0, rw (plain, is.1) small), rw (plain, is.1) refl) in
    sym (number_read {E = Unit {0}} (decimal n) (Ok n) parses)

-- a path that names no file is none of their names
pub apart_of : (prefix path : Text) → is_file_of prefix path ≡ false → (i : ℕ) → i < most_files → path ≢ file_name prefix i
apart_of prefix path f i low is =
    let itself : bytes_eq (decimal i) (decimal i) ≡ true = (bytes_eq-Decides (decimal i) (decimal i)).1 refl in
    let so : true ≡ is_file_of prefix path = sym (ap (λ b. b && bytes_eq (decimal i) (decimal i)) (lt-ltb i most_files low) ∙ itself) ∙ by_number prefix path (decimal i) i is (number_of-decimal i (omega (arith, low))) in
    both_ways (is_file_of prefix path) f (sym so)

-- the words of a rotation pass their tests
pub may_rotate : (n : ℕ) (path prefix kept_path kept_prefix : Text) → (1 ≤ n) × (n ≤ 1000000000) → is_file_path path ≡ true → is_prefix prefix ≡ true → is_file_of prefix path ≡ false → kept_path ≡ path
    → kept_prefix ≡ prefix → MayRotate n kept_path kept_prefix
may_rotate n path prefix kept_path kept_prefix limits of_path of_prefix apart p q =
    let a = and_parts _ _ of_path in
    let b = and_parts _ _ of_prefix in
    let may : MayRotate n path prefix = record {
      some = limits.0;
      most = limits.1;
      path_size = (leb-true _ _ a.0, leb-true _ _ a.1);
      prefix_size = (leb-true _ _ b.0, leb-true _ _ b.1);
      apart = apart_of prefix path apart;
    } in
    subst (λ t. MayRotate n t kept_prefix) (sym p) (subst (λ t. MayRotate n path t) (sym q) may)
