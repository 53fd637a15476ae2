use Rattle.signing_stated.proofs.Cases.{register_body_length, register_written}
use mathlib.Core.Path.{refl}
use lib.ListN.{replicate}
use borrow.Author.Rules.{rules}
use Rattle.signing.proofs.put_register_body.Goals as goal

pub returns-clause-value : goal.returns-clause-value
returns-clause-value c = search (rules, register_body_length)

pub returns-clause-reply_after : goal.returns-clause-reply_after
returns-clause-reply_after c =
    register_written c.args.to_sign c.args.block.now (search rules) (search rules) (search rules) c.args.certificate.now c.args.signature.now c.args.reply.now c.put_all.new.out c.register_head-head.result (replicate 67 0) (search rules) refl c.register_head-head.ensures c.put_all.ensures
