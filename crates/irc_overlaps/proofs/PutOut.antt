-- What is put out changes no layer, and a line on a link nothing but what is on its way.
use Rattle.std.proofs.Common.{◌≡◌, ℕ, Option, Some, None, List, [], ◌∷◌, refl, ◌∙◌}
use Rattle.irc_batch.specs.Batches.{Sent, line_to, end_of, line_on, end_of_link}
use Rattle.irc_relay.specs.Links.{Name}
use Rattle.irc_overlaps.specs.Networks.{Net, EndAt, all_sent_out, far_end, sending, sent_out}

pub sending_other : (far : Option EndAt) (line : List ℕ) (net : Net)
    → (sending far line net).other ≡ net.other
sending_other None line net = refl
sending_other (Some far) line net = refl

pub sending_told : (far : Option EndAt) (line : List ℕ) (net : Net)
    → (sending far line net).told ≡ net.told
sending_told None line net = refl
sending_told (Some far) line net = refl

pub sending_closings : (far : Option EndAt) (line : List ℕ) (net : Net)
    → (sending far line net).closings ≡ net.closings
sending_closings None line net = refl
sending_closings (Some far) line net = refl

sending_layer : (far : Option EndAt) (line : List ℕ) (net : Net)
    → (sending far line net).layer ≡ net.layer
sending_layer None line net = refl
sending_layer (Some far) line net = refl

one_layer : (s : Name) (sent : Sent) (net : Net) → (sent_out s sent net).layer ≡ net.layer
one_layer s (line_to conn line) net = refl
one_layer s (end_of conn) net = refl
one_layer s (line_on n line) net = sending_layer (far_end net s n) line net
one_layer s (end_of_link n reason) net = refl

pub all_layers : (s : Name) (outs : List Sent) (net : Net)
    → (all_sent_out s outs net).layer ≡ net.layer
all_layers s [] net = refl
all_layers s (sent ∷ outs) net = all_layers s outs (sent_out s sent net) ∙ one_layer s sent net
