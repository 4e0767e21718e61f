-- The main theorem. Assumes nothing.
use Rattle.flows.specs.Promise.{Whole}
use Rattle.engine.specs.Works.{built, the_engine}

-- Whatever is called, whatever time is told, wherever power fails and however much of what was stored had reached the memory by then: all
-- that the engine lives through makes sense, so every flow goes on as if nothing had ever fallen; and the engine stays within its lines.
abbrev pub EngineWhole : Type 0
EngineWhole = Whole built the_engine
