-- Who is let through the door of clients, and as whom.
use Rattle.std.specs.Prelude.{Bool, if◌then◌else◌}
use Rattle.std.specs.declared.net.ip_addr.IpAddr.{IpAddr}
use Rattle.irc_entrance.specs.Ranges.{is_within_any}
use Rattle.irc_entrance.specs.declared.entrance.Entrance.{Entrance}
use Rattle.irc_entrance.specs.declared.entrance.Entry.{Entry}
use Rattle.irc_entrance.specs.declared.entrance.Entry.TheVariants.{In, Proxied, Closed}

abbrev pub is_denied : Entrance → IpAddr → Bool
is_denied entrance address = is_within_any address entrance.deny.items

abbrev pub is_proxy : Entrance → IpAddr → Bool
is_proxy entrance address = is_within_any address entrance.proxies.items

-- a proxy says first for whom it comes, whether its own address is denied or not; who is denied is
-- closed, and everybody else comes in
abbrev pub entry_of : Entrance → IpAddr → Entry
entry_of entrance address =
    if is_proxy entrance address then Proxied
    else (if is_denied entrance address then Closed else In)
