-- A text is a ledger's in one way, or is refused in one way.
use Rattle.std.proofs.Common.{◌≡◌, ℕ, ◌+◌, ◌<◌, ◌≤◌, ◌^◌, Bool, true, false, List, [], ◌∷◌, ◌++◌, length, get_or, map, codes, decimal, if◌then◌else◌, refl, sym, ap, ◌∙◌, subst, ⊎_elim, arith, append_assoc, zero-add}
use Rattle.std.specs.List.{flat_map, AllByRecursion}
use Rattle.std.proofs.lemmas.Fmt.{decimal_injective, decimal_nonempty}
use Rattle.std.proofs.lemmas.List.{append-nil, length-append, append_cancel_left, append_cancel_right, length-map}
use Rattle.chunk_core.specs.declared.code.Exit.{Exit}
use Rattle.chunk_core.specs.declared.code.Exit.TheVariants.{Succeeded, Errored, Canceled}
use Rattle.chunk_core.specs.Texts.{exit_text}
use Rattle.res_ledger.specs.declared.event.StreamNo.{StreamNo}
use Rattle.res_ledger.specs.declared.event.StreamNo.TheVariants.{Outer, Inner}
use Rattle.res_ledger.specs.declared.event.What.{What}
use Rattle.res_ledger.specs.declared.event.What.TheVariants.{Open, Acquire, Lease, Cancel, Close, Final}
use Rattle.res_ledger.specs.declared.event.Event.{Event}
use Rattle.ledger_text.specs.declared.reading.LedgerRefused.TheVariants.{Memory, BadLine, BadCount}
use Rattle.res_ledger.specs.Texts.{event_line, ledger_text, name_text, what_text}
use Rattle.res_ledger.specs.Limits.{IsSmallStream, IsSmallWhat, IsSmallEvent, IsLedger}
use Rattle.ledger_text.specs.Reading.{IsEventLine, IsFirstBadLine, IsSpelled, AreSpelled, RefusalIsOne, TextIsNotRefused, TextIsOne, lines_of, head_line}
use Rattle.res_ledger.proofs.Prefixes.{split_append}
use Rattle.res_ledger.proofs.Words.{number_lacks, cut_once}
use Rattle.ledger_text.proofs.Words.{other}
use Rattle.ledger_text.proofs.Spelled.{verb, args, end_text, what_is, number_has_no_space, name_has_no_space, exit_has_no_space}
use Rattle.ledger_text.proofs.Lines.{event_lines, lines_are}
use Rattle.chunk_core.proofs.Each.{each_left}

-- a number and, behind a space, what follows it
spaced_once : (m n : ℕ) (u v : List ℕ) → m < 2 ^ 32 → n < 2 ^ 32 → decimal m ++ codes " " ++ u ≡ decimal n ++ codes " " ++ v → (m ≡ n) × (u ≡ v)
spaced_once m n u v h g e =
    let s = cut_once 32 (decimal m) (decimal n) u v (number_has_no_space m h) (number_has_no_space n g) (sym (append_assoc (decimal m) (codes " ") u) ∙ e ∙ append_assoc (decimal n) (codes " ") v) in
    (decimal_injective m n (omega arith) (omega arith) s.0, s.1)

two_once : (m n p q : ℕ) → m < 2 ^ 32 → n < 2 ^ 32 → p < 2 ^ 32 → q < 2 ^ 32 → decimal m ++ codes " " ++ decimal n ≡ decimal p ++ codes " " ++ decimal q → (m ≡ p) × (n ≡ q)
two_once m n p q hm hn hp hq e = let s = spaced_once m p (decimal n) (decimal q) hm hp e in (s.0, decimal_injective n q (omega arith) (omega arith) s.1)

exit_once : (x y : Exit) → exit_text x ≡ exit_text y → x ≡ y
exit_once Succeeded Succeeded e = refl
exit_once Errored Errored e = refl
exit_once Canceled Canceled e = refl
exit_once x y e = absurd (other (exit_text x) (exit_text y) [] [] refl e)

told_once : (m n : ℕ) (x y : Exit) → m < 2 ^ 32 → n < 2 ^ 32 → decimal m ++ codes " " ++ exit_text x ≡ decimal n ++ codes " " ++ exit_text y → (m ≡ n) × (x ≡ y)
told_once m n x y h g e = let s = spaced_once m n (exit_text x) (exit_text y) h g e in (s.0, exit_once x y s.1)

ok_once : (a b : Bool) → (if a then codes "ok" else codes "fault") ≡ (if b then codes "ok" else codes "fault") → a ≡ b
ok_once true true e = refl
ok_once true false e = absurd (other (codes "ok") (codes "fault") [] [] refl e)
ok_once false true e = absurd (other (codes "fault") (codes "ok") [] [] refl e)
ok_once false false e = refl

end_once : (x y : Exit) (a b : Bool) → end_text x a ≡ end_text y b → (x ≡ y) × (a ≡ b)
end_once x y a b e =
    let end : Bool → List ℕ = λ ok. if ok then codes "ok" else codes "fault" in
    let t = cut_once 32 (exit_text x) (exit_text y) (end a) (end b) (exit_has_no_space x tt) (exit_has_no_space y tt) (sym (append_assoc (exit_text x) (codes " ") (end a)) ∙ e ∙ append_assoc (exit_text y) (codes " ") (end b)) in
    (exit_once x y t.0, ok_once a b t.1)

row_once : (r s : ℕ) (x y : Exit) (a b : Bool) → r < 2 ^ 32 → s < 2 ^ 32 → decimal r ++ codes " " ++ end_text x a ≡ decimal s ++ codes " " ++ end_text y b → (r ≡ s) × (x ≡ y) × (a ≡ b)
row_once r s x y a b h g e = let t = spaced_once r s (end_text x a) (end_text y b) h g e in let u = end_once x y a b t.1 in (t.0, u.0, u.1)

-- what was done is spelled in one way
what_once : (v w : What) → IsSmallWhat v → IsSmallWhat w → verb v ++ args v ≡ verb w ++ args w → v ≡ w
what_once (Open s p) (Open t q) h g e = let o = two_once s p t q h.0 h.1 g.0 g.1 (append_cancel_left (codes "open ") _ _ e) in ap (λ x. Open x p) o.0 ∙ ap (λ x. Open t x) o.1
what_once (Acquire s p) (Acquire t q) h g e = let o = two_once s p t q h.0 h.1 g.0 g.1 (append_cancel_left (codes "acquire ") _ _ e) in ap (λ x. Acquire x p) o.0 ∙ ap (λ x. Acquire t x) o.1
what_once (Lease s p) (Lease t q) h g e = let o = two_once s p t q h.0 h.1 g.0 g.1 (append_cancel_left (codes "lease ") _ _ e) in ap (λ x. Lease x p) o.0 ∙ ap (λ x. Lease t x) o.1
what_once (Cancel s x) (Cancel t y) h g e = let o = told_once s t x y h g (append_cancel_left (codes "cancel ") _ _ e) in ap (λ z. Cancel z x) o.0 ∙ ap (λ z. Cancel t z) o.1
what_once (Close s x) (Close t y) h g e = let o = told_once s t x y h g (append_cancel_left (codes "close ") _ _ e) in ap (λ z. Close z x) o.0 ∙ ap (λ z. Close t z) o.1
what_once (Final s x a) (Final t y b) h g e = let o = row_once s t x y a b h g (append_cancel_left (codes "final ") _ _ e) in ap (λ z. Final z x a) o.0 ∙ ap (λ z. Final t z a) o.1 ∙ ap (λ z. Final t y z) o.2
what_once v w h g e = absurd (other (verb v) (verb w) (args v) (args w) refl e)

-- `outer` is no number
outer_apart : (k : ℕ) → k < 2 ^ 32 → codes "outer" ≡ decimal k → ⊥
outer_apart k h e =
    let full = decimal_nonempty k (omega arith) in
    number_lacks 111 k (λ r. omega (arith, r.1)) (omega arith) 0 0 full (ap (λ l. get_or l 0 0) (sym e))

name_once : (k q : StreamNo) → IsSmallStream k → IsSmallStream q → name_text k ≡ name_text q → k ≡ q
name_once Outer Outer h g e = refl
name_once Outer (Inner q) h g e = absurd (outer_apart q g e)
name_once (Inner k) Outer h g e = absurd (outer_apart k h (sym e))
name_once (Inner k) (Inner q) h g e = ap Inner (decimal_injective k q (omega arith) (omega arith) e)

-- events with one line and one stamp are one
event_once : (e f : Event) → IsSmallEvent e → IsSmallEvent f → e.stamp ≡ f.stamp → event_line e ≡ event_line f → e ≡ f
event_once e f h g at is =
    let b = append_cancel_right (name_text e.by ++ codes " " ++ what_text e.what) (name_text f.by ++ codes " " ++ what_text f.what) (codes "\n") is in
    let t = cut_once 32 (name_text e.by) (name_text f.by) (what_text e.what) (what_text f.what) (name_has_no_space e.by h.0) (name_has_no_space f.by g.0)
    (sym (append_assoc (name_text e.by) (codes " ") (what_text e.what)) ∙ b ∙ append_assoc (name_text f.by) (codes " ") (what_text f.what)) in
    let by = name_once e.by f.by h.0 g.0 t.0 in
    let what = what_once e.what f.what h.1 g.1 (sym (what_is e.what) ∙ t.1 ∙ what_is f.what) in
    let made : ℕ → StreamNo → What → Event = λ s k w. record { stamp = s; by = k; what = w } in
    ap (λ s. made s e.by e.what) at ∙ ap (λ k. made f.stamp k e.what) by ∙ ap (λ w. made f.stamp f.by w) what

-- the stamps count on from n
abbrev StampedFrom : ℕ → List Event → Type 0
StampedFrom n L = (P Q : List Event) (e : Event) → L ≡ P ++ e ∷ Q → e.stamp ≡ n + length P

stamped_tail : (n : ℕ) (e : Event) (L : List Event) → StampedFrom n (e ∷ L) → StampedFrom (n + 1) L
stamped_tail n e L h P Q f q = let s = h (e ∷ P) Q f (ap (λ l. e ∷ l) q) in omega (arith, s)

events_once : (n : ℕ) (L M : List Event) → StampedFrom n L → StampedFrom n M → AllByRecursion IsSmallEvent L → AllByRecursion IsSmallEvent M → map event_line L ≡ map event_line M → L ≡ M
events_once n [] [] s t h g e = refl
events_once n [] (y ∷ M) s t h g e = cc
events_once n (x ∷ L) [] s t h g e = cc
events_once n (x ∷ L) (y ∷ M) s t h g e =
    let first : event_line x ≡ event_line y = cc in
    let others : map event_line L ≡ map event_line M = cc in
    let at : x.stamp ≡ y.stamp = s [] L x refl ∙ sym (t [] M y refl) in
    let one = event_once x y h.0 g.0 at first in
    let more = events_once (n + 1) L M (stamped_tail n x L s) (stamped_tail n y M t) h.1 g.1 others in
    cc

head_once : (m n : ℕ) → m < 2 ^ 64 → n < 2 ^ 64 → head_line m ≡ head_line n → m ≡ n
head_once m n h g e = decimal_injective m n h g (append_cancel_left (codes "ledger ") (decimal m) (decimal n) (append_cancel_right (codes "ledger " ++ decimal m) (codes "ledger " ++ decimal n) (codes "\n") e))

-- the lines of a ledger's text
text_lines : (L : List Event) → IsLedger L → lines_of (ledger_text L) ≡ head_line (length L) ∷ map event_line L
text_lines L h =
    ap (λ l. lines_of (head_line (length L) ++ l)) (sym (append-nil (flat_map event_line L))) ∙ lines_are (length L) L [] h.2 h.1 ∙ ap (λ l. head_line (length L) ∷ l) (append-nil (map event_line L))

pub text_spelled : (L : List Event) → IsLedger L → IsSpelled (ledger_text L) (length L) (length L)
text_spelled L h = (map event_line L, text_lines L h, h.2, event_lines L h.1, length-map L event_line)

spelled_once : (text : List ℕ) (m a n b : ℕ) → IsSpelled text m a → IsSpelled text n b → (m ≡ n) × (a ≡ b)
spelled_once text m a n b h g =
    let e : head_line m ∷ h.0 ≡ head_line n ∷ g.0 = sym h.1 ∙ g.1 in
    let first : head_line m ≡ head_line n = cc in
    let others : h.0 ≡ g.0 = cc in
    (head_once m n h.2 g.2 first, sym h.4 ∙ ap length others ∙ g.4)

front_spelled : (P Q : List (List ℕ)) → AreSpelled (P ++ Q) → AreSpelled P
front_spelled [] Q h = tt
front_spelled (x ∷ P) Q h = (h.0, each_left IsEventLine P Q h.1)

-- where a line is bad, not all are well spelled
bad_unspelled : (text : List ℕ) (i m a : ℕ) → IsFirstBadLine text i → IsSpelled text m a → ⊥
bad_unspelled text i m a b h =
    let all : AreSpelled (head_line m ∷ h.0) = ((m, h.2, refl), h.3) in
    let e : head_line m ∷ h.0 ≡ (b.0 ++ b.2 ∷ []) ++ b.1 = sym h.1 ∙ b.3 ∙ sym (append_assoc b.0 (b.2 ∷ []) b.1) in
    b.6 (front_spelled (b.0 ++ b.2 ∷ []) b.1 (subst AreSpelled e all))

-- the first of two bad lines is not behind the other
not_behind : (text : List ℕ) (i j : ℕ) → IsFirstBadLine text i → IsFirstBadLine text j → j ≤ i
not_behind text i j b c = ⊎_elim
    (λ s. absurd (b.6 (front_spelled (b.0 ++ b.2 ∷ []) s.0 (subst AreSpelled (s.1 ∙ sym (append_assoc b.0 (b.2 ∷ []) s.0)) c.5))))
    (λ s. omega (arith, ap length s.1, length-append c.0 s.0, b.4, c.4))
    (split_append c.0 (c.2 ∷ c.1) b.0 b.1 b.2 (sym c.3 ∙ b.3))

pub refusal_is_one : RefusalIsOne
refusal_is_one text Memory q h g a b = absurd (h refl)
refusal_is_one text r Memory h g a b = absurd (g refl)
refusal_is_one text (BadLine i) (BadLine j) h g a b = ap BadLine (let l = not_behind text i j a b in let k = not_behind text j i b a in omega arith)
refusal_is_one text (BadLine i) (BadCount m n) h g a b = absurd (bad_unspelled text i m n a b.0)
refusal_is_one text (BadCount m n) (BadLine i) h g a b = absurd (bad_unspelled text i m n b a.0)
refusal_is_one text (BadCount m n) (BadCount p q) h g a b = let o = spelled_once text m n p q a.0 b.0 in ap (λ x. BadCount x n) o.0 ∙ ap (λ x. BadCount p x) o.1

pub text_is_not_refused : TextIsNotRefused
text_is_not_refused L h Memory r = refl
text_is_not_refused L h (BadLine i) r = absurd (bad_unspelled (ledger_text L) i (length L) (length L) r (text_spelled L h))
text_is_not_refused L h (BadCount m n) r = let o = spelled_once (ledger_text L) m n (length L) (length L) r.0 (text_spelled L h) in absurd (r.1 (o.0 ∙ sym o.1))

pub text_is_one : TextIsOne
text_is_one L M h g e =
    let q : head_line (length L) ∷ map event_line L ≡ head_line (length M) ∷ map event_line M = sym (text_lines L h) ∙ ap lines_of e ∙ text_lines M g in
    let others : map event_line L ≡ map event_line M = cc in
    events_once 0 L M (λ P Q x p. h.0 P Q x p ∙ sym (zero-add (length P))) (λ P Q x p. g.0 P Q x p ∙ sym (zero-add (length P))) h.1 g.1 others
