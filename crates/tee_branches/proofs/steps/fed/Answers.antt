-- What comes out is said, and what was received is one load more.
use Rattle.std.proofs.Common.{None, Some, refl, sym, ◌∙◌, subst}
use Rattle.chunk_core.specs.Elements.{elements}
use Rattle.chunk_core.specs.Feed.{Feeds}
use Rattle.chunk_core.specs.declared.feed.Fed.{Fed}
use Rattle.tee_branches.proofs.Feeding.{fed_fault, fed_out, fed_wants}
use Rattle.tee_branches.proofs.Texts.{moved_text, none_text}
use Rattle.tee_branches.proofs.steps.fed.Goals as goal

pub returns-in-Ok-Out-clause-stands : goal.returns-in-Ok-Out-clause-stands
returns-in-Ok-Out-clause-stands g c = λ m v got said f.
    let a = subst (λ (x : Fed). Feeds m f.input (elements c.args.load) x (g.F.Feed.stands c.feed.new.self m)) c.in-Ok-Out.field-0-is (c.in-Ok-Out.ensures m f.input f.stands (f.takes ∙ sym c.requires.kind)) in
    fed_out g.F.Feed.stands g.F.Feed.comes c.args.number m v got said c.args.pipe c.args.load c.requires.kind f c.in-Ok-Out.out None a.0 c.feed.new.self c.with_news.result a.1 c.with_news.ensures

pub returns-in-Ok-Fault-clause-stands : goal.returns-in-Ok-Fault-clause-stands
returns-in-Ok-Fault-clause-stands g c = λ m v got said f.
    let a = subst (λ (x : Fed). Feeds m f.input (elements c.args.load) x (g.F.Feed.stands c.feed.new.self m)) c.in-Ok-Fault.field-0-is (c.in-Ok-Fault.ensures m f.input f.stands (f.takes ∙ sym c.requires.kind)) in
    fed_fault g.F.Feed.stands g.F.Feed.comes c.args.number m v got said c.args.pipe c.args.load c.requires.kind f c.in-Ok-Fault.out (Some c.in-Ok-Fault.code) a c.in-Ok-Fault.code c.with_news-in-Ok-Fault.result refl c.with_news-in-Ok-Fault.ensures

pub returns-in-Err-clause-stands : goal.returns-in-Err-clause-stands
returns-in-Err-clause-stands g c = λ m v got said f. fed_wants g.F.Feed.stands g.F.Feed.comes c.args.number m v got said c.args.pipe c.args.load c.requires.kind f c.wanting.result c.wanting.ensures.stage c.wanting.ensures.message

pub returns-in-Ok-Out-clause-message : goal.returns-in-Ok-Out-clause-message
returns-in-Ok-Out-clause-message g c = moved_text c.args.number (elements c.in-Ok-Out.out) _ c.with_news.result c.with_news.ensures

pub returns-in-Ok-Fault-clause-message : goal.returns-in-Ok-Fault-clause-message
returns-in-Ok-Fault-clause-message g c = moved_text c.args.number (elements c.in-Ok-Fault.out) _ c.with_news-in-Ok-Fault.result c.with_news-in-Ok-Fault.ensures

pub returns-in-Err-clause-message : goal.returns-in-Err-clause-message
returns-in-Err-clause-message g c = none_text c.args.number c.wanting.result.message c.wanting.ensures.message
