-- What is put out to connections and on links, in order.
use Rattle.std.specs.Prelude.{ℕ, ⊤, ◌≤◌, Bool, false, not, nat_eq, Option, Some, None, List, []}
use Rattle.std.specs.Prelude.{◌∷◌, ◌++◌, length, map, filter}
use Rattle.irc_line.specs.Limits.{max_text}
use Rattle.irc_batch.specs.declared.close_reason.CloseReason.{CloseReason}
use Rattle.irc_batch.specs.declared.batch.Out.{Out}
use Rattle.irc_batch.specs.declared.batch.Out.TheVariants.{Line, Close, LinkLine, LinkClose}

-- one thing that is put out: a line to a connection or on a link, with its CR LF, or the end of a
-- connection, or of a link and why
pub data Sent : Type 0 where
  line_to : (conn : ℕ) (line : List ℕ) → Sent
  end_of : (conn : ℕ) → Sent
  line_on : (link : ℕ) (line : List ℕ) → Sent
  end_of_link : (link : ℕ) (reason : CloseReason) → Sent

-- what is put out, in order, and the line that is at hand for further connections and links
pub record Batch : Type 0 where
  pub outs : List Sent
  pub held : List ℕ

abbrev pub batch_of : List Sent → List ℕ → Batch
batch_of outs held = record { outs = outs; held = held }

abbrev pub nothing : Batch
nothing = batch_of [] []

-- one thing more is put out
abbrev pub put_out : Sent → Batch → Batch
put_out sent batch = record batch { outs = batch.outs ++ sent ∷ [] }

-- some things more are put out, in order
abbrev pub put_out_all : List Sent → Batch → Batch
put_out_all more batch = record batch { outs = batch.outs ++ more }

-- a line more is put out, and is at hand then
abbrev pub put_line : (List ℕ → Sent) → List ℕ → Batch → Batch
put_line to line batch = batch_of (batch.outs ++ to line ∷ []) line

-- a line has at most 512 bytes (RFC 2812 section 2.3)
abbrev pub IsText : Sent → Type 0
IsText (line_to conn line) = length line ≤ max_text
IsText (line_on link line) = length line ≤ max_text
IsText other = ⊤

-- a line, in turn to each of these connections but for one
abbrev pub is_number : Option ℕ → ℕ → Bool
is_number None conn = false
is_number (Some one) conn = nat_eq one conn

abbrev pub to_others : List ℕ → Option ℕ → List ℕ → List Sent
to_others line one conns =
    map (λ conn. line_to conn line) (filter (λ conn. not (is_number one conn)) conns)

-- what the code's value says
abbrev pub sent_of : Out → Sent
sent_of (Line conn line) = line_to conn line.now
sent_of (Close conn) = end_of conn
sent_of (LinkLine link line) = line_on link line.now
sent_of (LinkClose link reason) = end_of_link link reason
