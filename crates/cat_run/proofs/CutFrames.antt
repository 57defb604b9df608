-- The frame whose write failed.
use Rattle.std.proofs.Common.{◌≡◌, ℕ, ◌<◌, Bool, true, false, List, [], ◌∷◌, ◌++◌, map, length, refl, sym, ◌∙◌, ap, subst, append-nil}
use Rattle.std.proofs.lemmas.List.{map-append}
use Rattle.chunk_core.specs.Elements.{Element, rendering_of}
use Rattle.chunk_core.specs.Outcomes.{Cut}
use Rattle.device_port.specs.Device.{DeviceTold}
use Rattle.run_rules.specs.Outputs.{IsRest, elements_in_pieces}
use Rattle.run_rules.specs.Work.{Values, Work}
use Rattle.frames.proofs.Rendered.{rendering_some}
use Rattle.cat_run.specs.Alone.{IsCutAt, frame_of}
use Rattle.joined_runs.proofs.Parted.{elements_both}
use Rattle.cat_run.proofs.Pieces.{cut_of, frames_pieces}

module _ (work : Work) (v : Values) (w : ℕ → DeviceTold) (pieces : List (List Element)) (next : List Element) (rest : List ℕ) where
  -- where no write failed, nothing was written behind the whole frames
  pub rest_none : IsCutAt 0 false next rest → IsRest work v w (map (frame_of 0) pieces) (cut_of 0 false next) rest
  rest_none c = c.1

  -- where one did, the frame that was begun goes on with a run of stream 0
  pub rest_is : 0 < length work.streams → (failed : Bool) → IsCutAt 0 failed next rest → (failed ≡ true → work.runs 0 v w (elements_in_pieces pieces ++ next) Cut) → IsRest work v w (map (frame_of 0) pieces) (cut_of 0 failed next) rest
  rest_is some false c goes_on = rest_none c
  rest_is some true c goes_on = record {
    stream = some;
    some = rendering_some next c.0;
    more = c.1;
    front = c.2;
    text = c.3;
    pieces = pieces ++ next ∷ [];
    run = ([], Cut, subst (λ xs. work.runs 0 v w xs Cut) (sym (append-nil (elements_in_pieces (pieces ++ next ∷ [])) ∙ (elements_both pieces (next ∷ []) ∙ ap (λ xs. elements_in_pieces pieces ++ xs) (append-nil next)))) (goes_on refl));
    goes_on = ap (λ l. l ++ rendering_of next ∷ []) (frames_pieces 0 pieces) ∙ sym (map-append rendering_of pieces (next ∷ []));
  }
