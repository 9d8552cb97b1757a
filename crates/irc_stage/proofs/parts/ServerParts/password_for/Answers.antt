use Rattle.std.proofs.Common.{Some, ap, ◌∙◌, sym, option_map}
use Rattle.std.specs.Option.{option_copied}
use Rattle.irc_stage.specs.View.{KnownPeer, known_peer}
use Rattle.irc_stage.proofs.Peers.{found_known}
use Rattle.irc_stage.proofs.parts.ServerParts.password_for.Goals as goal

pub returns-in-Some : goal.returns-in-Some
returns-in-Some c =
    ap Some c.as_slice.ensures.value
    ∙ ap (λ o. option_map (λ (p : KnownPeer). p.password) (option_map known_peer o))
    (sym (ap option_copied c.in-Some.is) ∙ c.peer.ensures)
    ∙ ap (option_map (λ (p : KnownPeer). p.password))
    (sym (found_known c.args.name.now c.args.self.now.peers.items))

pub returns-in-None : goal.returns-in-None
returns-in-None c =
    ap (λ o. option_map (λ (p : KnownPeer). p.password) (option_map known_peer o))
    (sym (ap option_copied c.in-None.is) ∙ c.peer.ensures)
    ∙ ap (option_map (λ (p : KnownPeer). p.password))
    (sym (found_known c.args.name.now c.args.self.now.peers.items))
