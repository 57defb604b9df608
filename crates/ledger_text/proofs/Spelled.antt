-- What a text spells, by its parts.
use Rattle.std.proofs.Common.{◌≡◌, ◌≢◌, ℕ, ◌<◌, ◌^◌, ◌+◌, Bool, true, false, nat_eq, Some, length, take, drop, List, [], ◌∷◌, ◌++◌, All, codes, decimal, if◌then◌else◌, refl, sym, ap, ◌∙◌, arith, append_assoc}
use Rattle.std.specs.Int.{IsInRange}
use Rattle.std.specs.Str.{bytes_eq}
use Rattle.std.specs.Borrow.{Bor}
use Rattle.std.specs.Cmp.Lexicographic.{pointwise}
use Rattle.std.proofs.lemmas.Bool.Decides.{Decides-eqb}
use Rattle.std.proofs.lemmas.Slice.Eq.{strip_prefix_is, bytes_eq-Decides}
use Rattle.std.proofs.lemmas.Bool.{false≢true}
use Rattle.std.proofs.lemmas.List.{append_cancel_left}
use Rattle.std.proofs.lemmas.List.Elements.{All-append, All-same}
use Rattle.chunk_core.specs.declared.code.Exit.{Exit}
use Rattle.chunk_core.specs.declared.code.Exit.TheVariants.{Succeeded, Errored, Canceled}
use Rattle.chunk_core.specs.Texts.{exit_text}
use Rattle.res_ledger.specs.declared.event.StreamNo.{StreamNo}
use Rattle.res_ledger.specs.declared.event.StreamNo.TheVariants.{Outer, Inner}
use Rattle.res_ledger.specs.declared.event.What.{What}
use Rattle.res_ledger.specs.declared.event.What.TheVariants.{Open, Acquire, Lease, Cancel, Close, Final}
use Rattle.res_ledger.specs.declared.event.Event.{Event}
use Rattle.res_ledger.specs.Texts.{name_text, what_text}
use Rattle.res_ledger.specs.Limits.{IsSmallStream, IsSmallWhat, IsSmallEvent}
use Rattle.res_ledger.proofs.Words.{number_lacks, cut_once, lf_apart, space_apart}
use Rattle.ledger_text.proofs.Words.{lacks_all, other}

-- a spelling of the x with P, without the byte c
module _ {A : Type 0} (c : ℕ) (P : A → Type 0) (spelling : A → List ℕ) (clear : (x : A) → P x → All (λ b. b ≢ c) (spelling x)) where
  shifted : (word rest ys : List ℕ) (x : A) → word ++ c ∷ rest ≡ (spelling x ++ c ∷ []) ++ ys → word ++ c ∷ rest ≡ spelling x ++ c ∷ ys
  shifted word rest ys x e = e ∙ append_assoc (spelling x) (c ∷ []) ys

  -- where the text up to the byte spells no x, the text begins with none
  pub front_none : (text word rest : List ℕ) → All (λ b. b ≢ c) word → text ≡ word ++ c ∷ rest → ((x : A) → P x → word ≢ spelling x)
      → (x : A) (more : List ℕ) → P x → text ≢ (spelling x ++ c ∷ []) ++ more
  front_none text word rest lacks cut never x more p e =
      never x p (cut_once c word (spelling x) rest more lacks (clear x p) (shifted word rest more x (sym cut ∙ e))).0

  -- where the text behind the byte spells no y, the text spells no x and y
  pub back_none : {B : Type 0} (Q : B → Type 0) (last : B → List ℕ) (text rest : List ℕ) (x : A) → P x → text ≡ (spelling x ++ c ∷ []) ++ rest
      → ((y : B) → Q y → rest ≢ last y) → (z : A) (y : B) → P z → Q y → text ≢ (spelling z ++ c ∷ []) ++ last y
  back_none Q last text rest x p is never z y pz q e =
      never y q (cut_once c (spelling x) (spelling z) rest (last y) (clear x p) (clear z pz) (sym (append_assoc (spelling x) (c ∷ []) rest) ∙ sym is ∙ e ∙ append_assoc (spelling z) (c ∷ []) (last y))).1

pub number_has_no_space : (n : ℕ) → n < 2 ^ 32 → All (λ b. b ≢ 32) (decimal n)
number_has_no_space n h = number_lacks 32 n space_apart (omega arith)

name_lacks : (c : ℕ) → ¬ (IsInRange 48 57 c) → All (λ b. b ≢ c) (codes "outer") → (k : StreamNo) → IsSmallStream k → All (λ b. b ≢ c) (name_text k)
name_lacks c out o Outer h = o
name_lacks c out o (Inner k) h = number_lacks c k out (omega arith)

pub name_has_no_space : (k : StreamNo) → IsSmallStream k → All (λ b. b ≢ 32) (name_text k)
name_has_no_space k h = name_lacks 32 space_apart (lacks_all 32 (codes "outer") refl) k h

-- the word that an event's kind is spelled by
abbrev pub verb : What → List ℕ
verb (Open s p) = codes "open "
verb (Acquire r s) = codes "acquire "
verb (Lease j s) = codes "lease "
verb (Cancel j x) = codes "cancel "
verb (Close s x) = codes "close "
verb (Final r x ok) = codes "final "

-- what a finalizer was told, and whether it succeeded
abbrev pub end_text : Exit → Bool → List ℕ
end_text x ok = exit_text x ++ codes " " ++ (if ok then codes "ok" else codes "fault")

-- what stands behind that word
abbrev pub args : What → List ℕ
args (Open s p) = decimal s ++ codes " " ++ decimal p
args (Acquire r s) = decimal r ++ codes " " ++ decimal s
args (Lease j s) = decimal j ++ codes " " ++ decimal s
args (Cancel j x) = decimal j ++ codes " " ++ exit_text x
args (Close s x) = decimal s ++ codes " " ++ exit_text x
args (Final r x ok) = decimal r ++ codes " " ++ end_text x ok

grouped : (r : ℕ) (x : Exit) (end : List ℕ) → codes "final " ++ decimal r ++ codes " " ++ exit_text x ++ (codes " " ++ end) ≡ codes "final " ++ (decimal r ++ codes " " ++ (exit_text x ++ codes " " ++ end))
grouped r x end = ap (λ l. codes "final " ++ l) (append_assoc (decimal r ++ codes " ") (exit_text x) (codes " " ++ end) ∙ ap (λ l. decimal r ++ codes " " ++ l) (sym (append_assoc (exit_text x) (codes " ") end)))

pub what_is : (w : What) → what_text w ≡ verb w ++ args w
what_is (Open s p) = refl
what_is (Acquire r s) = refl
what_is (Lease j s) = refl
what_is (Cancel j x) = refl
what_is (Close s x) = refl
what_is (Final r x true) = grouped r x (codes "ok")
what_is (Final r x false) = grouped r x (codes "fault")

-- the text behind its word spells no such event
module _ (text rest : List ℕ) where
  pub no_open : text ≡ codes "open " ++ rest → ((x : ℕ × ℕ) → (x.0 < 2 ^ 32) × (x.1 < 2 ^ 32) → rest ≢ decimal x.0 ++ codes " " ++ decimal x.1) → (w : What) → IsSmallWhat w → text ≢ what_text w
  no_open is never (Open s p) small e = never (s, p) small (append_cancel_left (codes "open ") rest _ (sym is ∙ e))
  no_open is never w small e = other (codes "open ") (verb w) rest (args w) refl (sym is ∙ e ∙ what_is w)

  pub no_acquire : text ≡ codes "acquire " ++ rest → ((x : ℕ × ℕ) → (x.0 < 2 ^ 32) × (x.1 < 2 ^ 32) → rest ≢ decimal x.0 ++ codes " " ++ decimal x.1) → (w : What) → IsSmallWhat w → text ≢ what_text w
  no_acquire is never (Acquire r s) small e = never (r, s) small (append_cancel_left (codes "acquire ") rest _ (sym is ∙ e))
  no_acquire is never w small e = other (codes "acquire ") (verb w) rest (args w) refl (sym is ∙ e ∙ what_is w)

  pub no_lease : text ≡ codes "lease " ++ rest → ((x : ℕ × ℕ) → (x.0 < 2 ^ 32) × (x.1 < 2 ^ 32) → rest ≢ decimal x.0 ++ codes " " ++ decimal x.1) → (w : What) → IsSmallWhat w → text ≢ what_text w
  no_lease is never (Lease j s) small e = never (j, s) small (append_cancel_left (codes "lease ") rest _ (sym is ∙ e))
  no_lease is never w small e = other (codes "lease ") (verb w) rest (args w) refl (sym is ∙ e ∙ what_is w)

  pub no_cancel : text ≡ codes "cancel " ++ rest → ((x : ℕ × Exit) → x.0 < 2 ^ 32 → rest ≢ decimal x.0 ++ codes " " ++ exit_text x.1) → (w : What) → IsSmallWhat w → text ≢ what_text w
  no_cancel is never (Cancel j x) small e = never (j, x) small (append_cancel_left (codes "cancel ") rest _ (sym is ∙ e))
  no_cancel is never w small e = other (codes "cancel ") (verb w) rest (args w) refl (sym is ∙ e ∙ what_is w)

  pub no_close : text ≡ codes "close " ++ rest → ((x : ℕ × Exit) → x.0 < 2 ^ 32 → rest ≢ decimal x.0 ++ codes " " ++ exit_text x.1) → (w : What) → IsSmallWhat w → text ≢ what_text w
  no_close is never (Close s x) small e = never (s, x) small (append_cancel_left (codes "close ") rest _ (sym is ∙ e))
  no_close is never w small e = other (codes "close ") (verb w) rest (args w) refl (sym is ∙ e ∙ what_is w)

  pub no_final : text ≡ codes "final " ++ rest → ((x : ℕ × Exit × Bool) → x.0 < 2 ^ 32 → rest ≢ decimal x.0 ++ codes " " ++ end_text x.1 x.2) → (w : What) → IsSmallWhat w → text ≢ what_text w
  no_final is never (Final r x ok) small e = never (r, x, ok) small (append_cancel_left (codes "final ") rest _ (sym is ∙ e ∙ what_is (Final r x ok)))
  no_final is never w small e = other (codes "final ") (verb w) rest (args w) refl (sym is ∙ e ∙ what_is w)

-- what `strip_prefix` left
pub stripped : (p text : List ℕ) (rest : Bor (List ℕ)) → (pointwise nat_eq (take (length p) text) p ≡ true) × (rest.now ≡ drop (length p) text) × (length rest.now + length p ≡ length text) → text ≡ p ++ rest.now
stripped p text rest h = strip_prefix_is Decides-eqb text p (Some rest) h

-- another word is no exit
pub no_exit : (word : List ℕ) → word ≢ codes "succeeded" → word ≢ codes "errored" → word ≢ codes "canceled" → (x : Exit) → Unit {0} → word ≢ exit_text x
no_exit word s e c Succeeded u = s
no_exit word s e c Errored u = e
no_exit word s e c Canceled u = c

pub exit_has_no_space : (x : Exit) → Unit {0} → All (λ b. b ≢ 32) (exit_text x)
exit_has_no_space Succeeded u = lacks_all 32 (codes "succeeded") refl
exit_has_no_space Errored u = lacks_all 32 (codes "errored") refl
exit_has_no_space Canceled u = lacks_all 32 (codes "canceled") refl

-- what a finalizer was told is followed by `ok` or `fault`
pub no_end : (text rest : List ℕ) (x : Exit) → text ≡ (exit_text x ++ codes " ") ++ rest → rest ≢ codes "ok" → rest ≢ codes "fault" → (y : Exit × Bool) → Unit {0} → text ≢ end_text y.0 y.1
no_end text rest x is ok fault y u =
    back_none 32 (λ (z : Exit). Unit {0}) exit_text exit_has_no_space (λ (b : Bool). Unit {0}) (λ b. if b then codes "ok" else codes "fault") text rest x tt is (neither rest ok fault) y.0 y.1 tt tt
  where
    neither : (rest : List ℕ) → rest ≢ codes "ok" → rest ≢ codes "fault" → (b : Bool) → Unit {0} → rest ≢ (if b then codes "ok" else codes "fault")
    neither rest ok fault true u = ok
    neither rest ok fault false u = fault

pub unequal : (xs ys p : List ℕ) → false ≡ bytes_eq xs ys → ys ≡ p → xs ≢ p
unequal xs ys p h is e = false≢true (h ∙ (bytes_eq-Decides xs ys).1 (e ∙ sym is))

-- an event's line has no LF but its last
two_lack : (c : ℕ) → ¬ (IsInRange 48 57 c) → All (λ b. b ≢ c) (codes " ") → (m n : ℕ) → m < 2 ^ 32 → n < 2 ^ 32 → All (λ b. b ≢ c) (decimal m ++ codes " " ++ decimal n)
two_lack c out space m n p q = All-append (λ b. b ≢ c) (decimal m ++ codes " ") (decimal n) (All-append (λ b. b ≢ c) (decimal m) (codes " ") (number_lacks c m out (omega arith)) space) (number_lacks c n out (omega arith))

exit_lacks : (x : Exit) → All (λ b. b ≢ 10) (exit_text x)
exit_lacks Succeeded = lacks_all 10 (codes "succeeded") refl
exit_lacks Errored = lacks_all 10 (codes "errored") refl
exit_lacks Canceled = lacks_all 10 (codes "canceled") refl

end_lacks : (ok : Bool) → All (λ b. b ≢ 10) (if ok then codes "ok" else codes "fault")
end_lacks true = lacks_all 10 (codes "ok") refl
end_lacks false = lacks_all 10 (codes "fault") refl

told_lack : (n : ℕ) (x : Exit) → n < 2 ^ 32 → All (λ b. b ≢ 10) (decimal n ++ codes " " ++ exit_text x)
told_lack n x h = All-append (λ b. b ≢ 10) (decimal n ++ codes " ") (exit_text x) (All-append (λ b. b ≢ 10) (decimal n) (codes " ") (number_lacks 10 n lf_apart (omega arith)) (lacks_all 10 (codes " ") refl)) (exit_lacks x)

args_lack : (w : What) → IsSmallWhat w → All (λ b. b ≢ 10) (args w)
args_lack (Open s p) h = two_lack 10 lf_apart (lacks_all 10 (codes " ") refl) s p h.0 h.1
args_lack (Acquire r s) h = two_lack 10 lf_apart (lacks_all 10 (codes " ") refl) r s h.0 h.1
args_lack (Lease j s) h = two_lack 10 lf_apart (lacks_all 10 (codes " ") refl) j s h.0 h.1
args_lack (Cancel j x) h = told_lack j x h
args_lack (Close s x) h = told_lack s x h
args_lack (Final r x ok) h =
    All-append (λ b. b ≢ 10) (decimal r ++ codes " ") (end_text x ok) (All-append (λ b. b ≢ 10) (decimal r) (codes " ") (number_lacks 10 r lf_apart (omega arith)) (lacks_all 10 (codes " ") refl))
    (All-append (λ b. b ≢ 10) (exit_text x ++ codes " ") (if ok then codes "ok" else codes "fault") (All-append (λ b. b ≢ 10) (exit_text x) (codes " ") (exit_lacks x) (lacks_all 10 (codes " ") refl)) (end_lacks ok))

verb_lacks : (w : What) → All (λ b. b ≢ 10) (verb w)
verb_lacks (Open s p) = lacks_all 10 (codes "open ") refl
verb_lacks (Acquire r s) = lacks_all 10 (codes "acquire ") refl
verb_lacks (Lease j s) = lacks_all 10 (codes "lease ") refl
verb_lacks (Cancel j x) = lacks_all 10 (codes "cancel ") refl
verb_lacks (Close s x) = lacks_all 10 (codes "close ") refl
verb_lacks (Final r x ok) = lacks_all 10 (codes "final ") refl

-- the line of an event without its end
abbrev pub body : Event → List ℕ
body e = name_text e.by ++ codes " " ++ what_text e.what

pub body_lacks : (e : Event) → IsSmallEvent e → All (λ b. b ≢ 10) (body e)
body_lacks e h =
    All-append (λ b. b ≢ 10) (name_text e.by ++ codes " ") (what_text e.what)
    (All-append (λ b. b ≢ 10) (name_text e.by) (codes " ") (name_lacks 10 lf_apart (lacks_all 10 (codes "outer") refl) e.by h.0) (lacks_all 10 (codes " ") refl))
    (All-same (λ b. b ≢ 10) (what_text e.what) (verb e.what ++ args e.what) (what_is e.what) (All-append (λ b. b ≢ 10) (verb e.what) (args e.what) (verb_lacks e.what) (args_lack e.what h.1)))

-- and so has the head
pub head_lacks : (n : ℕ) → n < 2 ^ 64 → All (λ b. b ≢ 10) (codes "ledger " ++ decimal n)
head_lacks n h = All-append (λ b. b ≢ 10) (codes "ledger ") (decimal n) (lacks_all 10 (codes "ledger ") refl) (number_lacks 10 n lf_apart h)
