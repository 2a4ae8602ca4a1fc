-- What a simulated line has to be like for promises on its devices.
use Rattle.std.specs.Prelude.{◌≡◌, []}
use Rattle.std.specs.List.{AllByRecursion}
use Rattle.std.specs.List.Sorted.{IsPermutation}
use Rattle.rdm_line.specs.Scenes.{IsScene, Stays}
use Rattle.rdm_line.specs.Sim.{SimState}
use Rattle.rdm_line.specs.SimSteps.{NoFiveSuccessive}
use Rattle.rdm_line.specs.declared.scene.Scene.{Scene}

-- a simulated line of which no five consecutive exchanges are lost
pub record IsLossyScene (s : SimState) : Type 0 where
  pub scene : IsScene s.devices
  pub few_losses : NoFiveSuccessive s.losses

-- one whose devices stay, too
pub record IsStayingScene (s : SimState) : Type 0 where
  pub lossy : IsLossyScene s
  pub stay : AllByRecursion Stays s.devices

-- one on which no exchange fails, either
pub record IsCalmScene (s : SimState) : Type 0 where
  pub staying : IsStayingScene s
  pub no_fails : s.fails ≡ []

-- The line is as SimLine::new makes it from a scene: with the scene's devices, of which there are at most 1,024, in the
-- order of their UIDs, and with the scene's losses and failures, in any order.
pub record IsNewLine (from : Scene) (s : SimState) : Type 0 where
  pub devices : s.devices ≡ from.devices
  pub scene : IsScene s.devices
  pub losses : IsPermutation from.losses.items s.losses
  pub fails : IsPermutation from.fails.items s.fails
