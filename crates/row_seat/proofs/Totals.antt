-- Lemmas on lists of views of which one becomes another, passed on.
pub use Rattle.chunk_core.proofs.Totals.{each, put_here, put_else, one_at, total_set, total_at, total_two, total_push, total_none, total_sum, total_alone, total_some, total_one, total_map, map_same, map_put, map_back, some_put, some_back}
