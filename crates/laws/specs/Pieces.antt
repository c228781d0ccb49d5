-- A piece the other way round.
use Rattle.meeting.specs.declared.answer.Piece.{Piece}

-- Meeting 9: from its other end
abbrev pub turned_piece : Piece → Piece
turned_piece a = record { from = a.to; to = a.from }
