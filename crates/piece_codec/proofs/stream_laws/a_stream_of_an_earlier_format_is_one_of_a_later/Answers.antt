use Rattle.piece_codec.proofs.StreamLaws.{first_is_second, second_is_third}
use Rattle.piece_codec.proofs.stream_laws.a_stream_of_an_earlier_format_is_one_of_a_later.Goals as goal

pub returns-clause-second : goal.returns-clause-second
returns-clause-second c = first_is_second

pub returns-clause-third : goal.returns-clause-third
returns-clause-third c = second_is_third
