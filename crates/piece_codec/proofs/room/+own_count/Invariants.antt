use Rattle.piece_codec.proofs.room.+own_count.Given as goal

abbrev pub decreases-own_count : goal.decreases-own_count
decreases-own_count l = l.entries
