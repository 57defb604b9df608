-- Open jobs in another order, or at another time.
use Rattle.std.proofs.Common.{◌≡◌, List, [], ◌∷◌, ◌++◌, refl, ap, ⊎_elim}
use Rattle.chunk_core.specs.Lists.{IsAmong}
use Rattle.chunk_core.specs.Lists.IsAmong.{here, there}
use Rattle.chunk_core.proofs.Filters.{among_append, among_right}
use Rattle.chunk_core.proofs.Members.{among_left}
use Rattle.channel_bounded.specs.Ends.{HubSeen}
use Rattle.interrupt_ctx.specs.Ends.{BoardSeen}
use Rattle.stream_jobs.specs.declared.job.Job.{Job}
use Rattle.stream_jobs.specs.Running.{Origin}
use Rattle.collector.specs.Members.{Members}
use Rattle.collector.specs.Streams.{AreJobs, IsJobOf}
use Rattle.dealt_streams.specs.Parts.{Part}

-- the elements of two lists stand also in the two the other way round
pub among_swapped : {A : Type 0} (x : A) (xs ys : List A) → IsAmong x (xs ++ ys) → IsAmong x (ys ++ xs)
among_swapped x xs ys m = ⊎_elim (λ a. among_right x ys xs a) (λ b. among_left xs b) (among_append x xs ys m)

module _ {S V F D T : Type 0} (M : Members S V F D T) (hub : HubSeen) (board : BoardSeen) (d : D) (parts : List (Part V F)) where
  abbrev Jobs : List (Job S V F V D T) → List (Origin V F) → Type 0
  Jobs js os = AreJobs M hub board d parts js os

  pub jobs_split : (xs ys : List (Job S V F V D T)) (os : List (Origin V F)) → Jobs (xs ++ ys) os → (us : List (Origin V F)) × (vs : List (Origin V F)) × (os ≡ us ++ vs) × Jobs xs us × Jobs ys vs
  jobs_split [] ys os js = ([], os, refl, tt, js)
  jobs_split (x ∷ xs) ys [] js = absurd js
  jobs_split (x ∷ xs) ys (o ∷ os) js = let r = jobs_split xs ys os js.1 in (o ∷ r.0, r.1, ap (λ l. o ∷ l) r.2, (js.0, r.3), r.4)

  pub jobs_joined : (xs ys : List (Job S V F V D T)) (us vs : List (Origin V F)) → Jobs xs us → Jobs ys vs → Jobs (xs ++ ys) (us ++ vs)
  jobs_joined [] ys [] vs a b = b
  jobs_joined [] ys (o ∷ us) vs a b = absurd a
  jobs_joined (x ∷ xs) ys [] vs a b = absurd a
  jobs_joined (x ∷ xs) ys (o ∷ us) vs a b = (a.0, jobs_joined xs ys us vs a.1 b)

  -- each of these stays a job of its stream
  pub jobs_stay : (e : D) (js : List (Job S V F V D T)) (os : List (Origin V F)) → ((j : Job S V F V D T) (w : Origin V F) → IsAmong w os → IsJobOf M hub board d parts j w → IsJobOf M hub board e parts j w)
      → Jobs js os → AreJobs M hub board e parts js os
  jobs_stay e [] [] f js = tt
  jobs_stay e [] (o ∷ os) f js = absurd js
  jobs_stay e (x ∷ xs) [] f js = absurd js
  jobs_stay e (x ∷ xs) (o ∷ os) f js = (f x o (here os) js.0, jobs_stay e xs os (λ j w m. f j w (there o m)) js.1)
