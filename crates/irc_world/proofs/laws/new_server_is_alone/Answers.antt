use Rattle.irc_world.proofs.laws.new_server_is_alone.Goals as goal

pub returns : goal.returns
returns c about config server made = made.1
