-- What a layer puts out closes just whom its server closes: what it adds is lines on links.
use Rattle.std.proofs.Common.{◌≡◌, ℕ, Bool, true, false, ◌||◌, Option, Some, None, List, [], ◌∷◌}
use Rattle.std.proofs.Common.{refl, sym, ◌∙◌, ap, map, nat_eq, if◌then◌else◌}
use Rattle.std.specs.List.{list_any}
use Rattle.std.proofs.lemmas.List.Folds.{list_any-append}
use Rattle.std.proofs.Math.Bool.{or-false}
use Rattle.irc_batch.specs.Batches.{Sent, end_of, end_of_link, line_on, line_to}
use Rattle.irc_pieces.specs.declared.count.Count.{Count}
use Rattle.irc_pieces.specs.declared.count.Mark.{Mark}
use Rattle.irc_pieces.specs.Tallies.{count_for}
use Rattle.irc_link_end.specs.LinkEnds.{way_out}
use Rattle.irc_link_end.specs.declared.greeting.WayOut.{WayOut}
use Rattle.irc_link_end.specs.declared.greeting.WayOut.TheVariants.{Plain, WithWords, InPiece}
use Rattle.irc_layer.specs.declared.end.Cause.{Cause}
use Rattle.irc_layer.specs.declared.end.End.{End}
use Rattle.irc_layer.specs.Away.{has_no_place}
use Rattle.irc_layer.specs.Ends.{Ends}
use Rattle.irc_layer.specs.Putting.{all_put, body, count_at, count_before, count_out, ends_behind}
use Rattle.irc_layer.specs.Putting.{is_echo, is_unspoken, line_put, one_put, out_by, own_out}
use Rattle.irc_layer.specs.Putting.{piece_lines, piece_out, with_line_out}

-- of a test that no line on a link passes
module _ (test : Sent → Bool) (none : (link : ℕ) (line : List ℕ) → test (line_on link line) ≡ false)
  where
    abbrev one_fails : (link : ℕ) (line : List ℕ)
        → list_any test (line_on link line ∷ []) ≡ false
    one_fails link line = ap (λ b. b || false) (none link line)

    pub count_fails : (link : ℕ) (count : Option Count)
        → list_any test (count_out link count) ≡ false
    count_fails link None = refl
    count_fails link (Some count) = one_fails link _

    pub count_at_fails : (link : ℕ) (end : Option End) → list_any test (count_at link end) ≡ false
    count_at_fails link None = refl
    count_at_fails link (Some end) = count_fails link _

    unless_fails : (is : Bool) (outs : List Sent) → list_any test outs ≡ false
        → list_any test (if is then [] else outs) ≡ false
    unless_fails true outs fails = refl
    unless_fails false outs fails = fails

    if_fails : (is : Bool) (outs : List Sent) → list_any test outs ≡ false
        → list_any test (if is then outs else []) ≡ false
    if_fails true outs fails = fails
    if_fails false outs fails = refl

    piece_fails : (mark : Option Mark) (link lines : ℕ) (line : List ℕ) (end : End)
        → list_any test (piece_out mark link lines line end) ≡ false
    piece_fails mark link lines line end =
        list_any-append test (count_before mark link lines end) (line_on link line ∷ [])
        ∙ ap (λ b. b || list_any test (line_on link line ∷ []))
        (if_fails (nat_eq end.left 0)
        (count_out link (count_for lines mark end.link.pieces.counts))
        (count_fails link (count_for lines mark end.link.pieces.counts)))
        ∙ one_fails link line

    out_fails : (way : WayOut) (cause : Cause) (link lines : ℕ) (line : List ℕ) (end : End)
        → list_any test (out_by way cause link lines line end) ≡ false
    out_fails Plain cause link lines line end =
        unless_fails (is_unspoken cause (body line)) (line_on link line ∷ []) (one_fails link line)
    out_fails (WithWords offer) cause link lines line end = one_fails link _
    out_fails InPiece cause link lines line end =
        unless_fails (is_echo cause link (body line)) (piece_out cause.mark link lines line end)
        (piece_fails cause.mark link lines line end)

    line_fails : (cause : Cause) (link lines : ℕ) (line : List ℕ) (end : Option End)
        → list_any test (line_put cause link lines line end) ≡ false
    line_fails cause link lines line None = one_fails link line
    line_fails cause link lines line (Some end) =
        unless_fails (has_no_place (body line) end.link) (own_out cause link lines line end)
        (out_fails (way_out end.link) cause link lines line (with_line_out end))

    pub lines_fail : (link : ℕ) (lines : List (List ℕ))
        → list_any test (map (line_on link) lines) ≡ false
    lines_fail link [] = refl
    lines_fail link (line ∷ lines) = λ i. none link line i || lines_fail link lines i

    one_kept : (cause : Cause) (sent : Sent) (outs : List Sent) (ends : Ends)
        → list_any test (one_put cause sent outs ends) ≡ test sent
    one_kept cause (line_on link line) outs ends =
        line_fails cause link (piece_lines link line outs) line (ends link)
        ∙ sym (none link line)
    one_kept cause (line_to conn line) outs ends = sym (sym (or-false (test (line_to conn line))))
    one_kept cause (end_of conn) outs ends = sym (sym (or-false (test (end_of conn))))
    one_kept cause (end_of_link link reason) outs ends =
        sym (sym (or-false (test (end_of_link link reason))))

    pub all_kept : (cause : Cause) (outs : List Sent) (ends : Ends)
        → list_any test (all_put cause outs ends) ≡ list_any test outs
    all_kept cause [] ends = refl
    all_kept cause (sent ∷ outs) ends =
        list_any-append test (one_put cause sent outs ends)
        (all_put cause outs (ends_behind cause sent outs ends))
        ∙ (λ i. one_kept cause sent outs ends i
        || all_kept cause outs (ends_behind cause sent outs ends) i)
