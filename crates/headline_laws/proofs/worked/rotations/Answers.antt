use Rattle.std.proofs.Common.{inl}
use Rattle.headline_laws.proofs.Rotating.{two_pieces_hold, unopened_piece_holds}
use Rattle.headline_laws.proofs.worked.rotations.Goals as goal

pub returns : goal.returns
returns c = record { is_two_pieces = inl two_pieces_hold; is_unopened_piece = inl unopened_piece_holds }
