-- All that the card owes. Assumes nothing.
use Rattle.demands.specs.Kept.{Kept}
use Rattle.demands.specs.Demand1.{Demand1}
use Rattle.demands.specs.Host.{Host}
use Rattle.demands.specs.Reached.{Reached}
use Rattle.demands.specs.Silence.{SilenceStops}
use Rattle.demands.specs.Effects.{Effects}
use Rattle.demands.specs.Status.{StatusKept}
use Rattle.demands.specs.Demand2.{Demand2}
use Rattle.demands.specs.Identity.{WhoAreYou}
use Rattle.demands.specs.Letters.{Letters}
use Rattle.demands.specs.Demand3.{Demand3}
use Rattle.demands.specs.Cases.{Cases}

pub record Demands : Type 0 where
  pub kept : Kept
  pub demand_1 : Demand1
  pub host : Host
  pub reached : Reached
  pub silence : SilenceStops
  pub effects : Effects
  pub status : StatusKept
  pub demand_2 : Demand2
  pub identity : WhoAreYou
  pub letters : Letters
  pub demand_3 : Demand3
  pub cases : Cases
