-- Each call is lent fewer fields.
use Rattle.std.proofs.Common.{length}
use Rattle.signing_fields.proofs.+put_all.Given as goal

abbrev pub decreases-put_all : goal.decreases-put_all
decreases-put_all l = length l.fields.now
