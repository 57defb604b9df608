use Rattle.std.proofs.Common.{◌≡◌, ◌+◌, ◌∷◌, ◌++◌, ◌∙◌, ℕ, List, [], Some, ap, arith, drop, length-append, rules, subst}
use Rattle.toml.specs.Data.{as_str}
use Rattle.pipeline_desc.specs.Reading.{each_from}
use Rattle.pipeline_desc.specs.Steps.{step_meant}
use Rattle.pipeline_desc.specs.Sound.{is_sound_step}
use Rattle.pipeline_desc.specs.Values.{seen_as}
use Rattle.pipeline_desc.proofs.Each.{after, all_and, handed_on}
use Rattle.pipeline_desc.proofs.Entries.{entries_end, entry_fails, entry_next, entry_there}
use Rattle.pipeline_desc.proofs.steps.each_step.Goals as goal

pub unreachable-requires : goal.unreachable-requires
unreachable-requires c =
    entry_there as_str c.args.words.now c.requires.seen c.loop-i.i c.index-words-i.result (omega arith) c.index-words-i.is c.in_default.ensures

pub returns-in_err-step-clause-meant : goal.returns-in_err-step-clause-meant
returns-in_err-step-clause-meant c =
    handed_on (λ s. s) c.from_residual.result _ _ c.from_residual.ensures.1
    (entry_fails as_str (step_meant c.args.setting.now c.args.k) c.args.words.now c.requires.seen c.loop-i.steps (c.args.first + c.loop-i.i) c.loop-i.i _ c.loop-i.invariant.read
    c.index-words-i.result c.as_bytes.result.now _ (omega arith) c.index-words-i.is (ap (λ (t : List ℕ). Some t) c.as_bytes.ensures.value ∙ c.in-Some.ensures) c.in_err-step.ensures.meant)

pub loop-i-preserved : goal.loop-i-preserved
loop-i-preserved c =
    let pushed : c.push.new.self ≡ c.loop-i.steps ++ c.in_ok-step.step ∷ [] = search rules in
    let meant = step_meant c.args.setting.now c.args.k in
    let seen = seen_as as_str c.args.words.now in
    let behind : c.args.first + c.loop-i.i + 1 ≡ c.args.first + (c.loop-i.i + 1) = omega arith in
    record {
      read = rw pushed (subst (λ n. each_from meant c.args.first seen ≡ after (c.loop-i.steps ++ c.in_ok-step.step ∷ []) (each_from meant n (drop (c.loop-i.i + 1) seen))) behind
          (entry_next as_str meant c.args.words.now c.requires.seen c.loop-i.steps (c.args.first + c.loop-i.i) c.loop-i.i _ c.loop-i.invariant.read
          c.index-words-i.result c.as_bytes.result.now c.in_ok-step.step (omega arith) c.index-words-i.is (ap (λ (t : List ℕ). Some t) c.as_bytes.ensures.value ∙ c.in-Some.ensures) c.in_ok-step.ensures.meant));
      sound = rw pushed (all_and (is_sound_step c.args.setting.now.tables) c.loop-i.steps c.in_ok-step.step c.loop-i.invariant.sound c.in_ok-step.ensures.sound);
      count = rw (pushed, length-append) (omega (arith, c.loop-i.invariant.count));
    }

pub returns-clause-meant : goal.returns-clause-meant
returns-clause-meant c =
    entries_end as_str (step_meant c.args.setting.now c.args.k) c.args.words.now c.requires.seen c.loop-i.steps (c.args.first + c.loop-i.i) c.loop-i.i _ c.loop-i.invariant.read (omega arith)
