-- The world in which nothing has happened.
use Rattle.std.proofs.Common.{◌≡◌, ℕ, zero, suc, List, [], Option, Some, None, refl}
use Rattle.kn_route.specs.declared.strategy.Strategy.{Strategy}
use Rattle.kn_packets.specs.Moves as packets
use Rattle.kn_world.specs.declared.parts.Owner.TheVariants as owner
use Rattle.kn_world.specs.Numbers.{nth}
use Rattle.kn_world.specs.States as running
use Rattle.kn_refinement.specs.Fits.{Fits}
use Rattle.kn_refinement.specs.Shown.{agent_of, app_of, client_of, dial_of, link_of, shown, stream_of}
use Rattle.kn_refinement.proofs.Worlds.{worlds_same}

-- whatever is read of the member of a number, it is what is read of none
none : {X Y : Type 0} (f : Option X → Y) (n : ℕ) → f (nth n []) ≡ f None
none f zero = refl
none f (suc n) = refl

nothing : {X : Type 0} (n : ℕ) (x : X) → nth n [] ≡ Some x → ⊥
nothing zero x e = cc
nothing (suc n) x e = cc

pub begins_alike : (strategies : List Strategy) → shown (running.start strategies) ≡ packets.start strategies
begins_alike strategies = worlds_same (shown (running.start strategies)) (packets.start strategies) refl
    (none agent_of) (none client_of) (none link_of) (none (λ o. stream_of [] [] o)) (none (λ o. dial_of [] o)) (none (λ o. app_of [] o))

pub start_fits : (strategies : List Strategy) → Fits (running.start strategies)
start_fits strategies = record {
  agents = record {
    lost = λ l a at. absurd (nothing l a at);
    next = λ l a at. absurd (nothing l a at);
    of_connection = λ l c d a at. absurd (nothing l a at);
    connection_of = λ d n x at. absurd (nothing d x at);
    connect_id = λ d x at. absurd (nothing d x at);
    link = λ d x at. absurd (nothing d x at);
    of_ticket = λ l ticket a y at. absurd (nothing l a at);
    ticket_once = λ d e x y at. absurd (nothing d x at);
    ticket_older = λ d x a at. absurd (nothing d x at);
    first_ticket = λ l a at. absurd (nothing l a at);
    ticket_some = λ l ticket a y at. absurd (nothing l a at);
    tickets_rise = λ l a at. absurd (nothing l a at);
    up_dry = λ l a at. absurd (nothing l a at);
    no_connection = λ l a at. absurd (nothing l a at);
    dry = λ d x at. absurd (nothing d x at);
  };
  clients = record {
    of_number = λ c n app x at. absurd (nothing c x at);
    number_of = λ app c n a at. absurd (nothing app a at);
    top = λ c x at. absurd (nothing c x at);
    all_told = λ c x at. absurd (nothing c x at);
    told = λ c n x y at. absurd (nothing c x at);
    here = λ app c n a x y at. absurd (nothing app a at);
    left = λ app c n a x at. absurd (nothing app a at);
    up_dry = λ c x at. absurd (nothing c x at);
    down_dry = λ c x at. absurd (nothing c x at);
    unasked = λ app c n a x at. absurd (nothing app a at);
    no_door = λ app c n a at. absurd (nothing app a at);
  };
  fronts = record {
    of_client = λ f c at. absurd (nothing f (owner.Client c) at);
    client = λ c x at. absurd (nothing c x at);
    of_app = λ f app at. absurd (nothing f (owner.App app) at);
    app = λ app n a at. absurd (nothing app a at);
    unheard = λ app a at. absurd (nothing app a at);
    early = λ app a at. absurd (nothing app a at);
    refused = λ app a at. absurd (nothing app a at);
    present = λ app n a at. absurd (nothing app a at);
    gone = λ app n a at. absurd (nothing app a at);
    known = λ f up. absurd cc;
  };
  asked = record { asker = λ d x at. absurd (nothing d x at) };
  next_dial = refl;
}
