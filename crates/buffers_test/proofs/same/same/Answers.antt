use Rattle.buffers_test.proofs.Sames.{agreeing-all}
use Rattle.buffers_test.proofs.same.same.Goals as goal

pub returns : goal.returns
returns g c = search agreeing-all
