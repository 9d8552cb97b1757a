use Rattle.std.proofs.Common.{◌++◌, ◌∙◌, ap, sym}
use Rattle.std.specs.Option.{option_to_list}
use Rattle.irc_script.specs.Networks.{peer_of}
use Rattle.irc_script.proofs.Peering.{one_name_more}
use Rattle.irc_script.proofs.configs.peers_of.Goals as goal

pub loop-other-preserved : goal.loop-other-preserved
loop-other-preserved c =
    c.in_ok-push_other.ensures ∙ ap (λ peers. peers
    ++ option_to_list (peer_of c.args.server.now c.other-item.result)) c.loop-other.invariant
    ∙ sym (one_name_more (peer_of c.args.server.now) c.args.servers.now c.loop-other.other-index
    c.other-item.result c.loop-other-test.true c.other-item.is)
