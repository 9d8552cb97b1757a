-- The examples of `Examples.antt`, computed.
use Rattle.std.proofs.Common.{refl}
use Rattle.std.specs.Fmt.{digits}
use Rattle.std.specs.Net.Addr.{ipv6_bits}
use Rattle.irc_decimals.specs.Numbers.{max_number}
use Rattle.irc_entrance.specs.Examples.{BytesAreRead, LinesAreWanted, RangesHave}

pub ranges_have : RangesHave
unfolding ipv6_bits max_number digits
ranges_have = record {
  first = refl;
  last = refl;
  behind = refl;
  before = refl;
  host_bits = refl;
  mapped = refl;
  itself = refl;
  beside = refl;
  odd = refl;
  all_of_ipv4 = refl;
  none_of_ipv6 = refl;
  in_net = refl;
  other_net = refl;
  all = refl;
  front = refl;
  bits = refl;
  no_bits = refl;
  said = refl;
  none_said = refl;
  too_many = refl;
  too_many_of_ipv6 = refl;
  zero_in_front = refl;
  sign = refl;
  no_digit = refl;
}

pub lines_are_wanted : LinesAreWanted
unfolding max_number digits
lines_are_wanted = record {
  nothing = refl;
  word = refl;
  another = refl;
  is_another = refl;
  without_space = refl;
  shortest = refl;
  two = refl;
  one = refl;
  nearly_longest = refl;
  longest = refl;
  no_line = refl;
  too_long = refl;
  just_fits = refl;
  tcp4 = refl;
  tcp6 = refl;
  unknown = refl;
  unknown_more = refl;
  unknown_word = refl;
  udp = refl;
  small = refl;
  words = refl;
  port = refl;
  no_port = refl;
  great_port = refl;
  padded_port = refl;
  signed_port = refl;
  empty_port = refl;
}

pub bytes_are_read : BytesAreRead
bytes_are_read = record {
  front = refl;
  other_front = refl;
  fixed_part = refl;
  follow = refl;
  follow_more = refl;
  too_few = refl;
  too_few_of_ipv6 = refl;
  most = refl;
  too_many = refl;
  too_many_is_none = refl;
  version_1 = refl;
  other_command = refl;
  udp = refl;
  udp_of_ipv6 = refl;
  unix = refl;
  unspecified = refl;
  local = refl;
  local_named = refl;
  local_of_ipv4 = refl;
  half = refl;
  whole = refl;
  named = refl;
  named_with_more = refl;
  whole_of_ipv6 = refl;
  named_of_ipv6 = refl;
}
