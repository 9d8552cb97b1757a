-- Lines that are written along a pipe, and the bytes that they are.
use Rattle.std.proofs.Common.{◌≡◌, ℕ, Bool, true, false, List, [], ◌∷◌, ◌++◌, append_assoc}
use Rattle.std.proofs.Common.{append-nil, nat_eq, refl, sym, ◌∙◌, ap, if◌then◌else◌}
use Rattle.std.specs.List.{AllByRecursion, flat_map}
use Rattle.irc_line.specs.Bytes.{crlf}
use Rattle.irc_batch.specs.Batches.{Sent, end_of, end_of_link, line_on, line_to}
use Rattle.irc_network.specs.Node.{line_body}
use Rattle.irc_server.specs.LineEnds.{EndsInLineEnd}
use Rattle.irc_pipes.specs.Pipes.{LinkPipe, written}
use Rattle.irc_network.specs.ByteNetwork.{all_written}
use Rattle.irc_daemons.specs.Alike.{link_bytes}

abbrev pub with_end : List ℕ → List ℕ
with_end line = line ++ crlf

-- each with its CR LF
abbrev pub with_ends : List (List ℕ) → List ℕ
with_ends lines = flat_map with_end lines

pub ends_both : (one other : List (List ℕ))
    → with_ends (one ++ other) ≡ with_ends one ++ with_ends other
ends_both [] other = refl
ends_both (line ∷ one) other = ap (λ bytes. with_end line ++ bytes) (ends_both one other)
    ∙ sym (append_assoc (with_end line) (with_ends one) (with_ends other))

pub written_all : (lines : List (List ℕ)) (pipe : LinkPipe)
    → all_written lines pipe ≡ record { begun = pipe.begun; bytes = pipe.bytes ++ with_ends lines }
written_all [] pipe = λ i. record { begun = pipe.begun; bytes = sym (append-nil pipe.bytes) i }
written_all (line ∷ lines) pipe =
    written_all lines (written line pipe) ∙ (λ i. record {
      begun = pipe.begun;
      bytes = append_assoc pipe.bytes (line ++ crlf) (with_ends lines) i;
    })

-- ---- what is put out on a link

abbrev pub body_on : ℕ → Sent → List (List ℕ)
body_on link (line_on number text) = if nat_eq number link then line_body text ∷ [] else []
body_on link other = []

abbrev pub bodies : ℕ → List Sent → List (List ℕ)
bodies link outs = flat_map (body_on link) outs

pub bodies_are : (link : ℕ) (outs : List Sent) → AllByRecursion EndsInLineEnd outs
    → with_ends (bodies link outs) ≡ link_bytes link outs
bodies_are link [] all = refl
bodies_are link (line_to conn text ∷ outs) all = bodies_are link outs all.1
bodies_are link (end_of conn ∷ outs) all = bodies_are link outs all.1
bodies_are link (end_of_link number reason ∷ outs) all = bodies_are link outs all.1
bodies_are link (line_on number text ∷ outs) all =
    by (nat_eq number link) (bodies_are link outs all.1)
  where
    by : (b : Bool) → with_ends (bodies link outs) ≡ link_bytes link outs
        → with_ends ((if b then line_body text ∷ [] else []) ++ bodies link outs)
        ≡ (if b then text else []) ++ link_bytes link outs
    by true rest =
        ap (λ t. t ++ with_ends (bodies link outs)) (sym all.0) ∙ ap (λ bytes. text ++ bytes) rest
    by false rest = rest
