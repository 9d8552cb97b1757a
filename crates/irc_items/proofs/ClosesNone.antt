-- What a server does by its clients, and as a link is lost, closes no link: it closes just those
-- that are due.
use Rattle.std.proofs.Common.{◌≡◌, ℕ, List, [], ◌∷◌, refl, ◌∙◌, ap, map}
use Rattle.irc_batch.specs.Batches.{Sent, end_of, end_of_link, line_on, line_to}
use Rattle.irc_batch.specs.declared.close_reason.CloseReason.{CloseReason}
use Rattle.irc_server.specs.Served.{link_down, of_client, served}
use Rattle.irc_server.specs.Closings.{ServedClosesItsOwn, link_closings}
use Rattle.irc_items.specs.GoodLines.{closings}
use Rattle.irc_items.specs.Laws.{OnlyLinesClose}

-- why links are closed is what is told of each that is closed
reasons_of_closings : (out : List Sent)
    → closings out ≡ map (λ (c : ℕ × CloseReason). c.1) (link_closings out)
reasons_of_closings [] = refl
reasons_of_closings (line_to conn line ∷ out) = reasons_of_closings out
reasons_of_closings (end_of conn ∷ out) = reasons_of_closings out
reasons_of_closings (line_on link line ∷ out) = reasons_of_closings out
reasons_of_closings (end_of_link link why ∷ out) =
    ap (λ reasons. why ∷ reasons) (reasons_of_closings out)

pub only_lines_close : ServedClosesItsOwn → OnlyLinesClose
only_lines_close its_own = record {
  by_clients = λ view client_event. reasons_of_closings (served view (of_client client_event)).out
      ∙ ap (map (λ (c : ℕ × CloseReason). c.1)) (its_own view (of_client client_event));
  by_losses = λ view link. reasons_of_closings (served view (link_down link)).out
      ∙ ap (map (λ (c : ℕ × CloseReason). c.1)) (its_own view (link_down link));
}
