mod Firsts
mod PlainRules
mod ReferenceHistories
