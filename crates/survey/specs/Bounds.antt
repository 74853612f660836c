-- What is kept is within bounds, whatever the bytes are.
-- Assumes nothing.
use Rattle.std.specs.Prelude.{◌≤◌, ◌<◌}
use Rattle.sheet.specs.Record.{rows_max}
use Rattle.figure.specs.Figure.{Fair}
use Rattle.survey.specs.declared.Watch.{Watch}

pub record Sound (s : Watch) : Type 0 where
  pub fair : Fair s.figure
  pub few : s.values ≤ rows_max
  pub small : s.escapes.code < 0x20000
