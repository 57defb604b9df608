use Rattle.std.proofs.Common.{refl}
use Rattle.headline_laws.specs.Described.{drained, end_not_read, made_though_refused, never_read, next_stream_refused, read_by_cat, read_on, refusal_printed, refused_though_good, stream_left_out, unread_but_refused, unread_without_a_fault}
use Rattle.headline_laws.proofs.Asked.{refuses_cat, refuses_run}
use Rattle.headline_laws.proofs.Misdescribing.{drained_refused, end_not_read_refused, made_though_refused_refused, never_read_refused, next_stream_refused_refused, read_by_cat_refused, read_on_refused, refusal_printed_refused, refused_though_good_refused, stream_left_out_refused, unread_but_refused_refused, unread_without_a_fault_refused}
use Rattle.headline_laws.proofs.refused.wrong_descriptions.Goals as goal

pub returns : goal.returns
returns c = record {
  is_next_stream_refused = refuses_run next_stream_refused refl next_stream_refused_refused;
  is_stream_left_out = refuses_run stream_left_out refl stream_left_out_refused;
  is_unread_without_a_fault = refuses_run unread_without_a_fault refl unread_without_a_fault_refused;
  is_unread_but_refused = refuses_run unread_but_refused refl unread_but_refused_refused;
  is_read_on = refuses_run read_on refl read_on_refused;
  is_drained = λ bytes many. refuses_run (drained bytes) refl (drained_refused bytes many);
  is_refused_though_good = refuses_run refused_though_good refl refused_though_good_refused;
  is_never_read = refuses_run never_read refl never_read_refused;
  is_read_by_cat = refuses_cat read_by_cat refl read_by_cat_refused;
  is_end_not_read = refuses_run end_not_read refl end_not_read_refused;
  is_made_though_refused = refuses_run made_though_refused refl made_though_refused_refused;
  is_refusal_printed = refuses_run refusal_printed refl refusal_printed_refused;
}
