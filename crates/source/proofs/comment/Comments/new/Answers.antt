use Rattle.source.proofs.Pieces.{piece_by_piece}
use Rattle.source.proofs.comment.Comments.new.Goals as goal

pub returns-clause-pieces : goal.returns-clause-pieces
returns-clause-pieces g c = piece_by_piece
