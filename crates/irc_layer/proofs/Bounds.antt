-- A full log stays as it is.
use Rattle.std.proofs.Common.{◌≡◌, ℕ, Bool, true, false, List, length, nat_eq, nat_le, refl}
use Rattle.std.proofs.Common.{◌∙◌, ap, if◌then◌else◌}
use Rattle.irc_link_end.specs.LinkEnds.{after_piece_out, way_out}
use Rattle.irc_link_end.specs.declared.greeting.WayOut.{WayOut}
use Rattle.irc_link_end.specs.declared.greeting.WayOut.TheVariants.{Plain, WithWords, InPiece}
use Rattle.irc_crossing.specs.Hearing.{logged_of}
use Rattle.irc_crossing.specs.Logs.{put_out}
use Rattle.irc_layer.specs.declared.end.Cause.{Cause}
use Rattle.irc_layer.specs.declared.end.End.{End}
use Rattle.irc_layer.specs.Away.{has_no_place}
use Rattle.irc_layer.specs.Ends.{is_full}
use Rattle.irc_layer.specs.Laws.{FullLogsStay}
use Rattle.irc_layer.specs.Putting.{behind_own, behind_piece, body, end_by, is_echo, with_begun}
use Rattle.irc_layer.specs.Putting.{with_line_out}

begun_log : (lines : ℕ) (end : End) → (with_begun lines end).log ≡ end.log
begun_log lines end = by (nat_eq end.left 0)
  where
    by : (b : Bool)
        → (if b then record end { link = after_piece_out end.link; left = lines } else end).log
        ≡ end.log
    by true = refl
    by false = refl

piece_log : (begins : Bool) (lines : ℕ) (line : List ℕ) (end : End) → is_full end ≡ true
    → (behind_piece begins lines line end).log ≡ end.log
piece_log begins lines line end full =
    let begun = with_begun lines end in
    ap (λ b. if b then begun.log
    else put_out begun.link.pieces.counts.sent (logged_of begins (body line)) begun.log)
    (ap (λ log. nat_le 1048576 (length log)) (begun_log lines end) ∙ full)
    ∙ begun_log lines end

way_log : (way : WayOut) (cause : Cause) (link lines : ℕ) (line : List ℕ) (end : End)
    → is_full end ≡ true → (end_by way cause link lines line end).log ≡ end.log
way_log Plain cause link lines line end full = refl
way_log (WithWords offer) cause link lines line end full = refl
way_log InPiece cause link lines line end full = by (is_echo cause link (body line))
  where
    by : (b : Bool) → (if b then end else behind_piece cause.begins lines line end).log ≡ end.log
    by true = refl
    by false = piece_log cause.begins lines line end full

pub full_logs_stay : FullLogsStay
full_logs_stay cause link lines line end full = by (has_no_place (body line) end.link)
  where
    by : (b : Bool) → (if b then end else behind_own cause link lines line end).log ≡ end.log
    by true = refl
    by false = way_log (way_out end.link) cause link lines line (with_line_out end) full
