-- What a status at which all was printed says of its causes.
use Rattle.std.proofs.Common.{◌≡◌, ◌≢◌, ◌⊎◌, ℕ, Bool, true, false, List, Option, Some, None, refl, subst, ⊎_elim, arith}
use Rattle.std.proofs.lemmas.Bool.{both_ways}
use Rattle.pipeline_desc.specs.declared.refusal.Refusal.{Refusal}
use Rattle.flume_cli.specs.declared.status.Status.{Status}
use Rattle.flume_cli.specs.declared.status.Status.TheVariants as status
use Rattle.flume_cli.specs.Status.{Causes, status_of}
use Rattle.flume_cli.specs.Headline.{SaysBegun, SaysTail}
use Rattle.audit_laws.specs.Printed.{IsPrintedWhole}

-- the number of a status at which all was printed
abbrev IsWhole : ℕ → Type 0
IsWhole n = (n ≡ 0) ⊎ ((n ≡ 1) ⊎ (n ≡ 7))

-- another number
other : (n : ℕ) → n ≢ 0 → n ≢ 1 → n ≢ 7 → IsWhole n → ⊥
other n a b c h = ⊎_elim a (λ x. ⊎_elim b c x) h

not_two : IsWhole 2 → ⊥
not_two h = other 2 (λ e. omega (arith, e)) (λ e. omega (arith, e)) (λ e. omega (arith, e)) h

not_three : IsWhole 3 → ⊥
not_three h = other 3 (λ e. omega (arith, e)) (λ e. omega (arith, e)) (λ e. omega (arith, e)) h

not_four : IsWhole 4 → ⊥
not_four h = other 4 (λ e. omega (arith, e)) (λ e. omega (arith, e)) (λ e. omega (arith, e)) h

not_five : IsWhole 5 → ⊥
not_five h = other 5 (λ e. omega (arith, e)) (λ e. omega (arith, e)) (λ e. omega (arith, e)) h

not_six : IsWhole 6 → ⊥
not_six h = other 6 (λ e. omega (arith, e)) (λ e. omega (arith, e)) (λ e. omega (arith, e)) h

-- nothing stood in the way
pub record IsCalm (k : Causes) : Type 0 where
  pub early : k.early ≡ false
  pub unread : k.unread ≡ false
  pub refused : k.refused ≡ None
  pub unwritten : k.unwritten ≡ false
  pub memory : k.memory ≡ false

calm_by : (e w u : Bool) (r : Option Refusal) (n m f x : Bool) → IsPrintedWhole (status_of (record { early = e; words = w; unread = u; refused = r; unwritten = n; memory = m; faulty = f; unclean = x })) → IsCalm (record { early = e; words = w; unread = u; refused = r; unwritten = n; memory = m; faulty = f; unclean = x })
calm_by true w u r n m f x h = absurd (not_five h)
calm_by false false u r n m f x h = absurd (not_two h)
calm_by false true true r n m f x h = absurd (not_six h)
calm_by false true false (Some q) n m f x h = absurd (not_three h)
calm_by false true false None true m f x h = absurd (not_four h)
calm_by false true false None false true f x h = absurd (not_five h)
calm_by false true false None false false f x h = record { early = refl; unread = refl; refused = refl; unwritten = refl; memory = refl }

pub calm_of : (k : Causes) (s : Status) → s ≡ status_of k → IsPrintedWhole s → IsCalm k
calm_of k s e h = calm_by k.early k.words k.unread k.refused k.unwritten k.memory k.faulty k.unclean (subst IsPrintedWhole e h)

-- the whole tail was said
begun_whole : (said tail : List ℕ) (s : Status) → IsPrintedWhole s → SaysBegun said tail s → said ≡ tail
begun_whole said tail status.Good h b = b
begun_whole said tail status.Faulty h b = b
begun_whole said tail status.BadWords h b = b
begun_whole said tail (status.Refused r) h b = b
begun_whole said tail status.NotWritten h b = absurd (not_four h)
begun_whole said tail status.Memory h b = absurd (not_five h)
begun_whole said tail status.Unread h b = b
begun_whole said tail status.Unclean h b = b
begun_whole said tail status.Broken h b = b
begun_whole said tail (status.LedgerRefused r) h b = b
begun_whole said tail status.LedgerUnread h b = b

pub said_whole : (k : Causes) (said tail : List ℕ) (s : Status) (wanted : Bool) → IsCalm k → IsPrintedWhole s → SaysTail k said tail s false wanted → said ≡ tail
said_whole k said tail s true calm h t = absurd (both_ways k.memory calm.memory t.1)
said_whole k said tail s false calm h t = begun_whole said tail s h t
