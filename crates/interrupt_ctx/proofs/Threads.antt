-- A board may be shared by threads, and a seat and a handle may go to another one.
use denote.Param.Send.{IsSend, IsSync}
use Rattle.interrupt_ctx.specs.contracts.board.Board as Board
use Rattle.interrupt_ctx.specs.contracts.board.BoardSeat as BoardSeat
use Rattle.interrupt_ctx.specs.contracts.handle.BoardRef as BoardRef
use Rattle.interrupt_ctx.proofs.board.Board.TheSendSync as board
use Rattle.interrupt_ctx.proofs.board.BoardSeat.TheSendSync as seat
use Rattle.interrupt_ctx.proofs.handle.BoardRef.TheSendSync as handle

pub board_send : IsSend Board.the_row
board_send = board.the_send

pub board_sync : IsSync Board.the_row
board_sync = board.the_sync

pub seat_send : IsSend BoardSeat.the_row
seat_send = seat.the_send

pub handle_send : IsSend BoardRef.the_row
handle_send = handle.the_send
