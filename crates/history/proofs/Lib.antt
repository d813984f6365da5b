-- What is written along a line.
pub mod Written
-- Traces that are ruled out.
pub mod RuledOut
pub mod RuledOutEndings
pub mod RuledOutLine
pub mod RuledOutTags
pub mod RuledOutTime
pub mod RuledOutOpen
pub mod RuledOutViews
-- Traces that are admitted.
pub mod Admitted
