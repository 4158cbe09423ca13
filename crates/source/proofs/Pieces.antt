-- The comment layer maps every stream piece by piece, and in no other way. Assumes nothing.
use Rattle.source.specs.Pieces.{PieceByPiece}
use Rattle.source.proofs.Mapped.{mapped}
use Rattle.source.proofs.Mapping.{maps}

pub piece_by_piece : PieceByPiece
piece_by_piece = record { maps = maps; only = λ s t h. mapped h }
