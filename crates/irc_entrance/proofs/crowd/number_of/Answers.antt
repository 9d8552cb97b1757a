use Rattle.std.proofs.Common.{◌∙◌, sym, ap}
use Rattle.std.specs.Net.Addr.{ipv6_bits}
use Rattle.irc_entrance.specs.Crowds.{address_number}
use Rattle.irc_entrance.proofs.crowd.number_of.Goals as goal

pub returns-in-V4 : goal.returns-in-V4
returns-in-V4 c =
    c.to_bits.ensures ∙ ap (λ segments. ipv6_bits (record { segments = segments }))
    c.to_ipv6_mapped.ensures ∙ sym (ap address_number c.in-V4.is)

pub returns-in-V6 : goal.returns-in-V6
returns-in-V6 c = c.to_bits-in-V6.ensures ∙ sym (ap address_number c.in-V6.is)
