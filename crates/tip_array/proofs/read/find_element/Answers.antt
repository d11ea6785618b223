use Rattle.tip_shelf.proofs.Faring.{got_fared, got_out, fared-then}
use Rattle.tip_array.proofs.Finding.{found_held, in_range}
use Rattle.tip_array.proofs.read.find_element.Goals as goal

pub solved_element-requires-clause-out : goal.solved_element-requires-clause-out
solved_element-requires-clause-out g c = got_out (in_range c.requires.there c.requires.«data») c.in-Err.ensures.act

pub returns-in-Ok-clause-fared : goal.returns-in-Ok-clause-fared
returns-in-Ok-clause-fared g c = got_fared (in_range c.requires.there c.requires.«data») c.get.ensures.act

pub returns-in-Ok-clause-found : goal.returns-in-Ok-clause-found
returns-in-Ok-clause-found g c = found_held (in_range c.requires.there c.requires.«data») c.in-Ok.ensures.act

pub returns-in-Err-clause-fared : goal.returns-in-Err-clause-fared
returns-in-Err-clause-fared g c = fared-then (got_fared (in_range c.requires.there c.requires.«data») c.get.ensures.act) c.solved_element.ensures.fared
