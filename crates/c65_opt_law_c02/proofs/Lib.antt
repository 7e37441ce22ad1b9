mod Leads
mod Processor
