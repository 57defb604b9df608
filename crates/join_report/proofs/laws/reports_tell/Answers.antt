-- Each law is a lemma.
use Rattle.join_tale.specs.Tales.Fate.{Begun, Skipped}
use Rattle.join_report.proofs.Listing.{names_agree}
use Rattle.join_report.proofs.Steps.{fates, heeds, learns, reports_ends, turns}
use Rattle.join_report.proofs.laws.reports_tell.Goals as goal

pub returns-clause-stay : goal.returns-clause-stay
returns-clause-stay c most n t r i = record { begins = fates most n t r i Begun (λ e. cc); skips = fates most n t r i Skipped (λ e. cc); learns = learns most n t r i; heeds = heeds most n t r i; turns = turns most n t r i }

pub returns-clause-ends : goal.returns-clause-ends
returns-clause-ends c most n t r i all = reports_ends most n t r i all

pub returns-clause-names : goal.returns-clause-names
returns-clause-names c ss = names_agree ss
