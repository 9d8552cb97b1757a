-- How much may wait for somebody before others wait for it.
use Rattle.std.specs.Prelude.{ℕ, ◌/◌, min}
use Rattle.irc_turns.specs.declared.marks.Marks.{Marks}

-- for a client half of its room; for a link, before nobody else is read, a quarter of its room, and
-- at most 262,144 bytes; and half of that before whoever has added to it is not read
abbrev pub marks_of : ℕ → ℕ → Marks
marks_of client_room link_room = record {
  client = client_room / 2;
  soft = min (link_room / 4) 262144 / 2;
  hard = min (link_room / 4) 262144;
}
