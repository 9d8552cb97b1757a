use Rattle.std.proofs.Common.{◌∷◌, ◌∙◌, [], Some, codes}
use Rattle.irc_line.specs.Messages.{text}
use Rattle.irc_door.specs.Turning.{from}
use Rattle.irc_door.proofs.supported.supported_by.Goals as goal

pub returns : goal.returns
returns c = c.reply.ensures ∙ (λ i. text (from c.args.server.now (codes "005")
    (c.args.nick.now ∷ codes "CASEMAPPING=rfc1459" ∷ codes "CHANTYPES=#" ∷ codes "PREFIX=(ov)@+"
    ∷ codes "CHANMODES=b,k,l,imnpst" ∷ (c.as_slice.ensures.value ∙ c.requires.modes) i
    ∷ (c.as_slice-2.ensures.value ∙ c.requires.nick) i
    ∷ (c.as_slice-3.ensures.value ∙ c.requires.channel) i
    ∷ (c.as_slice-4.ensures.value ∙ c.requires.topic) i
    ∷ (c.as_slice-5.ensures.value ∙ c.requires.kick) i
    ∷ (c.as_slice-6.ensures.value ∙ c.requires.away) i
    ∷ (c.as_slice-7.ensures.value ∙ c.requires.bans) i
    ∷ (c.as_slice-8.ensures.value ∙ c.requires.joined) i
    ∷ (c.as_slice-9.ensures.value ∙ c.requires.targets) i ∷ [])
    (Some (codes "are supported by this server"))))
