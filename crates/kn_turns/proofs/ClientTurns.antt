-- A client takes the first packet of the server, and nothing settles behind it.
use Rattle.std.proofs.Common.{◌≡◌, ℕ, List, [], ◌∷◌, Option, None, Some, refl, sym, ap, ◌∙◌}
use Rattle.kn_packet.specs.declared.packet.Packet.{Packet}
use Rattle.kn_packets.specs.Keys.{Keys}
use Rattle.kn_packets.proofs.Runs.{keys_go_on}
use Rattle.kn_world.specs.declared.parts.Client.{Client}
use Rattle.kn_world.specs.declared.state.State.{State}
use Rattle.kn_world.specs.Clients as clients
use Rattle.kn_world.specs.Numbers.{change, first_of, nth, rest_of}
use Rattle.kn_refinement.specs.Fits.{Fits}
use Rattle.kn_refinement.specs.Leads.{Leads}
use Rattle.kn_refinement.specs.Shown.{shown}
use Rattle.kn_refinement.proofs.AgentDials.{stays}
use Rattle.kn_refinement.proofs.Changes.{change_kept}
use Rattle.kn_refinement.proofs.ClientPipes.{one_leads}
use Rattle.kn_refinement.proofs.NumberLemmas.{nth_none}
use Rattle.kn_turns.specs.Notes.{takes_out, took_out}

pub out_turn : (c : ℕ) (s : State) → Fits s → Keys (shown s) → Leads s (takes_out c s)
out_turn c s fits keys = here (nth c s.clients) refl
  where
    first : (x : Client) → nth c s.clients ≡ Some x → (ps : List Packet) → x.down ≡ ps → Leads s (took_out (first_of ps) c (record s { clients = change clients.rest_down c s.clients }))
    first x h [] down = stays s (record s { clients = change clients.rest_down c s.clients }) fits (ap (λ xs. record s { clients = xs }) (change_kept clients.rest_down c s.clients x h (ap (λ ps. record x { down = rest_of ps }) down ∙ ap (λ ps. record x { down = ps }) (sym down))))
    first x h (p ∷ rest) down = (one_leads keys_go_on s c fits keys x h p rest down).leads

    here : (o : Option Client) → nth c s.clients ≡ o → Leads s (took_out (clients.first_down o) c (record s { clients = change clients.rest_down c s.clients }))
    here None h = stays s (record s { clients = change clients.rest_down c s.clients }) fits (ap (λ xs. record s { clients = xs }) (nth_none clients.rest_down c s.clients h))
    here (Some x) h = first x h x.down refl
