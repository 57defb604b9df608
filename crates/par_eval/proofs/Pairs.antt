-- Loads and results as messages.
use Rattle.std.proofs.Common.{◌≡◌, ℕ, zero, suc, ◌⊎◌, List, [], ◌∷◌, ◌++◌, map, length, refl, sym, ap, ◌∙◌, subst, ⊎_elim, append_assoc, append-nil, arith, length-append}
use Rattle.std.proofs.lemmas.List.{map-append}
use mathlib.Core.Option.{some-ne-none}
use Rattle.chunk_core.specs.Totals.{IsAt}
use Rattle.chunk_core.specs.declared.code.How.{How}
use Rattle.chunk_core.specs.declared.load.Load.{Load as Piece}
use Rattle.chunk_core.proofs.Changes.{at_more}
use Rattle.chunk_core.proofs.Places.{at_last, at_longer}
use Rattle.channel_bounded.specs.declared.message.Body.{Body}
use Rattle.channel_bounded.specs.declared.message.Body.TheVariants.{Load, End}
use Rattle.channel_bounded.specs.declared.message.Msg.{Msg}
use Rattle.par_eval.specs.Messages.{AreResults, IsPaired, IsResult, Meaning, bodies, loads_in, messages_of, results_in}
use Rattle.par_eval.specs.declared.work.Worked.{Worked}

pub results_messages : (ws : List Worked) → results_in (messages_of ws) ≡ ws
results_messages [] = refl
results_messages (w ∷ ws) = ap (λ l. w ∷ l) (results_messages ws)

pub messages_more : (ws : List Worked) (w : Worked) → messages_of (ws ++ w ∷ []) ≡ messages_of ws ++ Load w.out ∷ End w.how ∷ []
messages_more [] w = refl
messages_more (v ∷ ws) w = ap (λ l. Load v.out ∷ End v.how ∷ l) (messages_more ws w)

pub loads_more : (xs ys : List Body) → loads_in (xs ++ ys) ≡ loads_in xs ++ loads_in ys
loads_more [] ys = refl
loads_more (Load l ∷ xs) ys = ap (λ t. l ∷ t) (loads_more xs ys)
loads_more (End h ∷ xs) ys = loads_more xs ys

pub results_longer : (xs ys : List Body) (q : ℕ) (w : Worked) → IsAt (results_in xs) q w → IsAt (results_in (xs ++ ys)) q w
results_longer [] ys q w e = absurd (some-ne-none w (sym e))
results_longer (End h ∷ xs) ys q w e = absurd (some-ne-none w (sym e))
results_longer (Load r ∷ []) ys q w e = absurd (some-ne-none w (sym e))
results_longer (Load r ∷ Load s ∷ xs) ys q w e = absurd (some-ne-none w (sym e))
results_longer (Load r ∷ End h ∷ xs) ys zero w e = e
results_longer (Load r ∷ End h ∷ xs) ys (suc q) w e = results_longer xs ys q w e

pub paired_messages : (ws : List Worked) → IsPaired (messages_of ws)
paired_messages [] = tt
paired_messages (w ∷ ws) = paired_messages ws

pub paired_front : (xs ys : List Body) → IsPaired (xs ++ ys) → IsPaired xs
paired_front [] ys p = tt
paired_front (End h ∷ xs) ys p = p
paired_front (Load r ∷ []) ys p = tt
paired_front (Load r ∷ Load s ∷ xs) ys p = p
paired_front (Load r ∷ End h ∷ xs) ys p = paired_front xs ys p

-- behind whole results comes a load
pub paired_load : (ws : List Worked) (b : Body) (bs : List Body) → IsPaired (messages_of ws ++ b ∷ bs) → (l : Piece) × (b ≡ Load l)
paired_load [] (Load l) bs p = (l, refl)
paired_load [] (End h) bs p = absurd p
paired_load (w ∷ ws) b bs p = paired_load ws b bs p

-- and behind that its end
pub paired_end : (ws : List Worked) (r : Piece) (b : Body) (bs : List Body) → IsPaired (messages_of ws ++ Load r ∷ b ∷ bs) → (h : How) × (b ≡ End h)
paired_end [] r (Load l) bs p = absurd p
paired_end [] r (End h) bs p = (h, refl)
paired_end (w ∷ ws) r b bs p = paired_end ws r b bs p

pub bodies_more : (ms : List Msg) (m : Msg) → bodies (ms ++ m ∷ []) ≡ bodies ms ++ m.body ∷ []
bodies_more ms m = map-append (λ (n : Msg). n.body) ms (m ∷ [])

-- one more load and its result
pub results_next : (f : Meaning) (loads : List Piece) (ws : List Worked) (l : Piece) (w : Worked) → length ws ≡ length loads → IsResult f l w → AreResults f loads ws → AreResults f (loads ++ l ∷ []) (ws ++ w ∷ [])
results_next f loads ws l w count is each q u at = ⊎_elim
    (λ e. let t = each q u e in (t.0, at_longer loads (l ∷ []) q t.0 t.1, t.2))
    (λ e. (l, at_last loads l q (sym (e.0 ∙ count)), subst (λ x. IsResult f l x) e.1 is))
    (at_more ws w q u at)
