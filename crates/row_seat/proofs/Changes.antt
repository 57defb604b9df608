-- Lemmas on lists of views of which two become others, or to which one is added, passed on.
pub use Rattle.chunk_core.proofs.Changes.{at_more, sorted, each_more, more_here, more_else, more_last, total_more, some_more, some_less, map_more, sorted_two, each_two, two_first, two_second, two_else, total_both, some_two, two_back, map_two}
