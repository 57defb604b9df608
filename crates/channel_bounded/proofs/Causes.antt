-- Facts under which a false answer is a contradiction.
use Rattle.std.proofs.Common.{◌≡◌, ◌≢◌, List, [], ◌∷◌, ◌++◌, length, sym, refl, ap, ◌∙◌, arith, length-append}
use Rattle.channel_bounded.specs.declared.message.Msg.{Msg}
use Rattle.channel_bounded.specs.Causes.{FullHasACause, NoneHasACause}
use Rattle.channel_bounded.proofs.Streams.{whole_sent}

not_longer : (xs : List Msg) (m : Msg) → xs ++ m ∷ [] ≢ xs
not_longer xs m e = let l : length (xs ++ m ∷ []) ≡ length xs = ap length e in let n = length-append xs (m ∷ []) in omega arith

pub full_has_a_cause : FullHasACause
full_has_a_cause capacity m queued views p v h at sends own room = (
  record { books = h.books; holds = λ _ full. omega arith; accounts = h.accounts; were_made = h.were_made; fits = h.fits },
  (λ got found _ whole _ again. absurd (not_longer v.sent m (sym (whole_sent v.stream v.sent got found m own whole) ∙ again))),
  (λ f. f.2.2 f.2.1 f.1),
)

pub none_has_a_cause : NoneHasACause
none_has_a_cause m rest views p v h at gets = (
  record { books = h.books; holds = λ _ none. cc; accounts = h.accounts; were_made = h.were_made; fits = h.fits },
  (λ x found _ same. absurd (not_longer v.got x same)),
  (λ f. f.1 refl refl),
)
