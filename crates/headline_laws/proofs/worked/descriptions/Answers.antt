use Rattle.std.proofs.Common.{inl}
use Rattle.headline_laws.proofs.Describing.{empty_description_holds, no_memory_holds, refused_description_holds, unread_source_holds}
use Rattle.headline_laws.proofs.worked.descriptions.Goals as goal

pub returns : goal.returns
returns c = record {
  is_refused_description = inl refused_description_holds;
  is_unread_source = inl unread_source_holds;
  is_no_memory = inl no_memory_holds;
  is_empty_description = inl empty_description_holds;
}
