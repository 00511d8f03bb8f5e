-- All that the card owes holds. Assumes nothing.
use Rattle.demands.specs.Demands.{Demands}
use Rattle.demands.proofs.Kept.{kept}
use Rattle.demands.proofs.Demand1.{demand_1}
use Rattle.demands.proofs.Host.{host}
use Rattle.demands.proofs.Reached.{reached}
use Rattle.demands.proofs.Silence.{silence_stops}
use Rattle.demands.proofs.Effects.{effects}
use Rattle.demands.proofs.Status.{status_kept}
use Rattle.demands.proofs.Demand2.{demand_2}
use Rattle.demands.proofs.Identity.{who_are_you}
use Rattle.demands.proofs.Letters.{letters}
use Rattle.demands.proofs.Demand3.{demand_3}
use Rattle.demands.proofs.Cases.{cases_hold}

pub demands : Demands
demands =
    record {
      kept = kept;
      demand_1 = demand_1;
      host = host;
      reached = reached;
      silence = silence_stops;
      effects = effects;
      status = status_kept;
      demand_2 = demand_2;
      identity = who_are_you;
      letters = letters;
      demand_3 = demand_3;
      cases = cases_hold;
    }
