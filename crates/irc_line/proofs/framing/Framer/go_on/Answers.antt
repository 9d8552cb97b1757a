use Rattle.std.proofs.Common.{◌||◌, ap, lit<, lit≤}
use Rattle.irc_line.specs.Lines.{stream_for}
use Rattle.irc_line.proofs.Streams.{goes_on_real, kept_fits, begun}
use Rattle.irc_line.proofs.framing.Framer.go_on.Goals as goal

pub push_cut-requires : goal.push_cut-requires
push_cut-requires c =
    let old = begun c.self.inside.kept.items c.self.inside.nul_seen in
    (lit< tt, (lit≤ tt, kept_fits old (stream_for old) c.self.invariant))

pub invariant_of-self : goal.invariant_of-self
invariant_of-self c =
    goes_on_real (begun c.self.inside.kept.items c.self.inside.nul_seen) c.args.run.now
    c.push_cut.new.line.items _ c.self.invariant
    c.requires.no_end c.push_cut.ensures.appended
    (ap (λ b. c.self.inside.nul_seen || b) c.requires.nul)
