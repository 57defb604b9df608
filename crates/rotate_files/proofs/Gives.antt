-- What is given piece by piece.
use Rattle.std.proofs.Common.{◌≡◌, ℕ, zero, suc, ◌∷◌, ◌+◌, ◌-◌, ◌<◌, ◌≤◌, List, [], ◌++◌, length, take, drop, Option, Result, Ok, Err, refl, sym, ap, ◌∙◌, subst, arith, append-nil, append_assoc, length-drop}
use Rattle.std.specs.Result.{IsErrAnd}
use Rattle.std.proofs.lemmas.List.{take-append-drop, take-take}
use Rattle.std.proofs.lemmas.Result.{err_from_is_err_and}
use Rattle.device_port.specs.Device.{DeviceTold}
use Rattle.device_port.specs.Depot.{DepotTold}
use Rattle.scope_tree.specs.Calls.{Seen}
use Rattle.hot_swap.specs.declared.swap.Held.{Held}
use Rattle.rotate_files.specs.declared.stop.Stop.{Stop}
use Rattle.rotate_files.specs.Rotating.{IsInStep}
use Rattle.rotate_files.specs.Stops.{GivesAll, GivesSome, StopsSo, StopsWithin}
use Rattle.rotate_files.proofs.Written.{take-add}

take_whole : (k : ℕ) (xs : List ℕ) → length xs ≤ k → take k xs ≡ xs
take_whole zero [] l = refl
take_whole zero (x ∷ xs) l = absurd (omega arith)
take_whole (suc k) [] l = refl
take_whole (suc k) (x ∷ xs) l = ap (λ ys. x ∷ ys) (take_whole k xs (omega arith))

-- the rest of a list, as a slice has it
pub tail_is : (at : ℕ) (xs : List ℕ) → take (length xs - at) (drop at xs) ≡ drop at xs
tail_is at xs = let s = length-drop at xs in let l : length (drop at xs) ≤ length xs - at = omega (arith, s) in take_whole (length xs - at) (drop at xs) l

module _ {V : Type 0} (told : V → DeviceTold) (old : DepotTold) (prefix : List ℕ) (n : ℕ) (path : List ℕ) (a : Seen V) (h : Option Held) (now : DepotTold) (given : List ℕ) (src : V) where
  -- nothing was given
  pub stops_at_once : (r : Result ℕ (Stop V)) (files left : ℕ) (piece : List ℕ) (s : Stop V) → 0 < length piece → StopsSo told old prefix n path a h now given src s → IsErrAnd r (λ e. e ≡ s) → GivesSome told old prefix n path a h now files left given piece src r
  stops_at_once r files left piece s some st w =
      let e = err_from_is_err_and r w in
      subst (λ x. GivesSome told old prefix n path a h now files left given piece src x) (sym (e.1 ∙ ap (λ x. Err x) e.2))
      (record { taken = []; rest = piece; bytes_are = refl; some = λ x. some; stops = subst (λ l. StopsSo told old prefix n path a h now l src s) (sym (append-nil given)) st })

  -- behind bytes that were given
  pub stops_behind : {T : Type 0} (r : Result T (Stop V)) (files left at : ℕ) (piece : List ℕ) (s : Stop V) → StopsWithin told old prefix n path a h now (given ++ take at piece) (take (length piece - at) (drop at piece)) src s → IsErrAnd r (λ e. e ≡ s)
      → GivesAll told old prefix n path a h now files left given piece src r
  stops_behind r files left at piece s st w =
      let e = err_from_is_err_and r w in
      subst (λ x. GivesAll told old prefix n path a h now files left given piece src x) (sym (e.1 ∙ ap (λ x. Err x) e.2))
      (record {
        taken = take at piece ++ st.taken;
        rest = st.rest;
        bytes_are = sym (take-append-drop at piece) ∙ (ap (λ l. take at piece ++ l) (sym (tail_is at piece) ∙ st.bytes_are) ∙ sym (append_assoc (take at piece) st.taken st.rest));
        some = st.some;
        stops = subst (λ l. StopsSo told old prefix n path a h now l src s) (append_assoc given (take at piece) st.taken) st.stops;
      })

  -- a piece more
  pub given_more : (files left at k : ℕ) (piece : List ℕ) → k ≤ length (take (length piece - at) (drop at piece)) → IsInStep told old prefix n path a h now files left ((given ++ take at piece) ++ take k (take (length piece - at) (drop at piece))) src
      → IsInStep told old prefix n path a h now files left (given ++ take (at + k) piece) src
  given_more files left at k piece l q =
      subst (λ x. IsInStep told old prefix n path a h now files left x src)
      (append_assoc given (take at piece) (take k (take (length piece - at) (drop at piece))) ∙ ap (λ x. given ++ x) (ap (λ y. take at piece ++ take k y) (tail_is at piece) ∙ sym (take-add at k piece))) q

  -- all of it
  pub given_all : (files left at : ℕ) (piece : List ℕ) → length piece ≤ at → IsInStep told old prefix n path a h now files left (given ++ take at piece) src → IsInStep told old prefix n path a h now files left (given ++ piece) src
  given_all files left at piece l q = subst (λ x. IsInStep told old prefix n path a h now files left (given ++ x) src) (take_whole at piece l) q
